use Rattle.std.proofs.Common.{◌≡◌, Some, ap, option_map, sym, ◌∙◌}
use Rattle.toml.specs.View.{table_view}
use Rattle.iso_explain_settings.proofs.warnings.warn_settings.Goals as goal

pub returns-in-Some : goal.returns-in-Some
returns-in-Some c document utf8 parsed =
    let is : Some (table_view c.in-Some.table) ≡ Some document = ap (option_map table_view) (sym c.in-Some.is) ∙ c.in_ok-table.ensures document utf8 parsed in
    let same : table_view c.in-Some.table ≡ document = cc in
    rw (← same) c.warn_table.ensures

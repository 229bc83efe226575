use Rattle.std.proofs.Common.{◌≡◌, Some, ap, option_map, sym, ◌∙◌}
use Rattle.toml.specs.View.{table_view}
use Rattle.iso_settings.specs.Leaves.{leaves, values_at}
use Rattle.iso_explain_settings.proofs.explain.explain_value.Goals as goal

pub returns-in-Some : goal.returns-in-Some
returns-in-Some c document utf8 parsed =
    let is : Some (table_view c.in-Some.table) ≡ Some document = ap (option_map table_view) (sym c.in-Some.is) ∙ c.in_ok-table.ensures document utf8 parsed in
    let same : table_view c.in-Some.table ≡ document = cc in
    rw (← same) (c.tell_found.ensures (values_at c.args.mistake.now.key.now (leaves (table_view c.in-Some.table))) c.find.ensures)

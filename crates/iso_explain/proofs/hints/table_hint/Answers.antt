use Rattle.std.proofs.Common.{◌≡◌, true, false, ap, refl, ◌∙◌}
use Rattle.iso_hints.specs.Rows.{hint_in}
use Rattle.iso_hints.specs.Tables.{table}
use Rattle.iso_explain.specs.Mending.{tells_hint}
use Rattle.iso_explain.proofs.hints.table_hint.Goals as goal

pub returns-then-tells_hint : goal.returns-then-tells_hint
returns-then-tells_hint c bytes at =
    let yes : tells_hint c.args.fault.kind ≡ true = cc in
    rw yes (c.hint_for.ensures ∙ ap (hint_in table) at)

pub returns-else-tells_hint : goal.returns-else-tells_hint
returns-else-tells_hint c bytes at =
    let no : tells_hint c.args.fault.kind ≡ false = cc in
    rw no refl

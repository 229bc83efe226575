use Rattle.std.proofs.lemmas.Result.{on_ok_weaker}
use Rattle.iso_affected_text.proofs.RowLemmas.{in_five}
use Rattle.iso_affected_text.proofs.parts.add_declared.Goals as goal

pub returns : goal.returns
returns c =
    rw (← c.kind_part.ensures, ← c.statics.ensures, ← c.statics-2.ensures, ← c.fields.ensures, ← c.fields-2.ensures)
    (on_ok_weaker c.add_variable-2.result
    (in_five _ _ _ _ _ _ _ _ _ _ _ c.in_ok-add_part.ensures c.in_ok-add_part-2.ensures c.in_ok-add_part-3.ensures c.in_ok-add_variable.ensures) c.add_variable-2.ensures)

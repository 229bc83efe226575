use Rattle.std.proofs.lemmas.Result.{on_ok_weaker}
use Rattle.iso_affected_text.proofs.RowLemmas.{in_three}
use Rattle.iso_affected_text.proofs.parts.add_difference.Goals as goal

pub returns : goal.returns
returns c =
    rw (← c.own_head-was.ensures, ← c.own_head-now.ensures, ← c.of_class-of.ensures, ← c.marks.ensures)
    (on_ok_weaker c.add_start.result (in_three _ _ _ _ _ _ _ c.in_ok-add_declared.ensures c.in_ok-add_blocks.ensures) c.add_start.ensures)

use Rattle.std.proofs.Common.{refl}
use Rattle.std.proofs.lemmas.Result.{on_ok_weaker}
use Rattle.iso_affected_text.proofs.RowLemmas.{in_two, unchanged}
use Rattle.iso_affected_text.proofs.rows.add_fate.Goals as goal

pub returns-in-Same : goal.returns-in-Same
returns-in-Same c = rw c.in-Same.is (unchanged _ _ refl)

pub returns-in_ok-add_row-in-Changed : goal.returns-in_ok-add_row-in-Changed
returns-in_ok-add_row-in-Changed c =
    rw c.in-Changed.is (on_ok_weaker c.add_reasons.result (in_two _ _ _ _ _ c.in_ok-add_row-in-Changed.ensures) c.add_reasons.ensures)

pub returns-in-New : goal.returns-in-New
returns-in-New c = rw c.in-New.is c.add_row-in-New.ensures

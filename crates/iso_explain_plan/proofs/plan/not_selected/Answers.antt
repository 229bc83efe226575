use Rattle.std.proofs.Common.{refl}
use Rattle.std.proofs.lemmas.Result.{on_ok_weaker}
use Rattle.iso_explain_plan.specs.Unselected.{path_note}
use Rattle.iso_explain_plan.proofs.plan.not_selected.Goals as goal

pub returns-in-Some : goal.returns-in-Some
returns-in-Some g c = λ index. rw c.in-Some.is c.meant_by.ensures

pub returns-in-None : goal.returns-in-None
returns-in-None g c =
    λ index. rw c.in-None.is (on_ok_weaker c.path_told.result (λ printed. record { text = path_note; is = refl; printed = printed }) c.path_told.ensures)

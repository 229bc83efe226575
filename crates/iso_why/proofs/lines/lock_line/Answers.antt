use Rattle.std.proofs.Common.{◌++◌, Ok, List, ℕ, codes, ◌∙◌}
use Rattle.iso_plan.specs.KeyTable.{keys}
use Rattle.iso_plan.specs.RowView.{tree_of}
use Rattle.iso_tap.proofs.PrinterLemmas.{prints_as, prints_cut, prints_stopped, prints_then}
use Rattle.iso_tap.specs.PlanText.{lock_text}
use Rattle.iso_why.proofs.GiverLemmas.{lock-head}
use Rattle.iso_why.specs.WhyText.{from_text}
use Rattle.iso_why.proofs.lines.lock_line.Goals as goal

pub returns-in_err-pieces : goal.returns-in_err-pieces
returns-in_err-pieces g c =
    let tree = tree_of c.args.plan.now in
    let head = prints_as c.in_err-pieces.ensures (codes "    " ++ lock_text (keys tree) c.args.lock ++ codes " from ")
    (lock-head (c.as_bytes.ensures.value ∙ c.access_word.ensures) (c.as_bytes-2.ensures.value ∙ c.key.ensures)) in
    prints_stopped (codes "\n") _ c.from_residual.ensures.0 (prints_cut (from_text tree c.args.node c.args.lock) _ _ head)

pub returns-in_err-from : goal.returns-in_err-from
returns-in_err-from g c =
    let tree = tree_of c.args.plan.now in
    let head = prints_as c.in_ok-pieces.ensures (codes "    " ++ lock_text (keys tree) c.args.lock ++ codes " from ")
    (lock-head (c.as_bytes.ensures.value ∙ c.access_word.ensures) (c.as_bytes-2.ensures.value ∙ c.key.ensures)) in
    prints_stopped (codes "\n") _ c.from_residual-in_err-from.ensures.0 (prints_then _ head c.in_err-from.ensures)

pub returns : goal.returns
returns g c =
    let tree = tree_of c.args.plan.now in
    let head = prints_as c.in_ok-pieces.ensures (codes "    " ++ lock_text (keys tree) c.args.lock ++ codes " from ")
    (lock-head (c.as_bytes.ensures.value ∙ c.access_word.ensures) (c.as_bytes-2.ensures.value ∙ c.key.ensures)) in
    prints_then _ (prints_then (Ok tt) head c.in_ok-from.ensures) c.bytes.ensures

use Rattle.std.proofs.Common.{append-nil, sym}
use Rattle.iso_tap.proofs.PrinterLemmas.{prints_as, prints_stopped, prints_then}
use Rattle.iso_plan.specs.RowView.{tree_of}
use Rattle.iso_explain_plan.specs.UnfinishedTexts.{left_if, unfinished_note}
use Rattle.iso_explain_plan.proofs.unfinished.unfinished_notes.Goals as goal

pub returns-in_err-unfinished_note : goal.returns-in_err-unfinished_note
returns-in_err-unfinished_note g c =
    prints_stopped (left_if (tree_of c.args.plan.now) c.args.left) _ c.from_residual.ensures.0 c.in_err-unfinished_note.ensures

pub returns-in-Some : goal.returns-in-Some
returns-in-Some g c = rw c.in-Some.is (prints_then _ c.in_ok-unfinished_note.ensures c.left_note.ensures)

pub returns-in-None : goal.returns-in-None
returns-in-None g c = rw c.in-None.is (prints_as c.in_ok-unfinished_note.ensures _ (sym (append-nil unfinished_note)))

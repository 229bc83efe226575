use Rattle.iso_plan.specs.RowView.{tree_of}
use Rattle.iso_tap.proofs.PrinterLemmas.{prints_stopped, prints_then}
use Rattle.iso_explain_plan.specs.Refusals.{why_notes}
use Rattle.iso_explain_plan.proofs.refused.why.Goals as goal

pub returns-in_err-line_text : goal.returns-in_err-line_text
returns-in_err-line_text g c =
    prints_stopped (why_notes (tree_of c.args.plan.now) c.args.event c.args.refused) _ c.from_residual.ensures.0 c.in_err-line_text.ensures

pub returns : goal.returns
returns g c = prints_then _ c.in_ok-line_text.ensures c.why_notes.ensures

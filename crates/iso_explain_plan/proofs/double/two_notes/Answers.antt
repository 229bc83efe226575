use Rattle.iso_explain_plan.specs.Doubles.{rename_note}
use Rattle.iso_tap.proofs.PrinterLemmas.{prints_stopped, prints_then}
use Rattle.iso_explain_plan.proofs.double.two_notes.Goals as goal

pub returns-in_err-double_note : goal.returns-in_err-double_note
returns-in_err-double_note g c = prints_stopped (rename_note) _ c.from_residual.ensures.0 c.in_err-double_note.ensures

pub returns : goal.returns
returns g c = prints_then _ c.in_ok-double_note.ensures c.rename_note.ensures

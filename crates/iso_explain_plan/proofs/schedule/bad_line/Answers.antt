use Rattle.iso_explain_plan.specs.Schedules.{event_notes}
use Rattle.iso_tap.proofs.PrinterLemmas.{prints_stopped, prints_then}
use Rattle.iso_explain_plan.proofs.schedule.bad_line.Goals as goal

pub returns-in_err-line_text : goal.returns-in_err-line_text
returns-in_err-line_text g c = prints_stopped (event_notes) _ c.from_residual.ensures.0 c.in_err-line_text.ensures

pub returns : goal.returns
returns g c = prints_then _ c.in_ok-line_text.ensures c.event_notes.ensures

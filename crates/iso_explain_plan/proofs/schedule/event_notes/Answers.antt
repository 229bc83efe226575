use Rattle.std.proofs.Common.{[], ◌∷◌, codes}
use Rattle.iso_explain_plan.specs.Notes.{note}
use Rattle.iso_tap.proofs.PrinterLemmas.{prints_stopped, prints_then}
use Rattle.iso_explain_plan.proofs.schedule.event_notes.Goals as goal

pub returns-in_err-note : goal.returns-in_err-note
returns-in_err-note g c = prints_stopped (note (codes "spaces stand between its words, and none before or behind them" ∷ [])) _ c.from_residual.ensures.0 c.in_err-note.ensures

pub returns : goal.returns
returns g c = prints_then _ c.in_ok-note.ensures c.note-2.ensures

use Rattle.std.proofs.Common.{Ok}
use Rattle.iso_tap.proofs.PrinterLemmas.{prints_cut, prints_stopped, prints_then}
use Rattle.iso_explain_plan.specs.Plans.{part_note}
use Rattle.iso_explain_plan.specs.Sizes.{sizes_notes}
use Rattle.iso_explain_plan.proofs.plan.nodes_notes.Goals as goal

pub returns-in_err-nodes_note : goal.returns-in_err-nodes_note
returns-in_err-nodes_note g c =
    prints_stopped part_note _ c.from_residual.ensures.0 (prints_cut (sizes_notes c.args.largest.now) _ _ c.in_err-nodes_note.ensures)

pub returns-in_err-sizes_notes : goal.returns-in_err-sizes_notes
returns-in_err-sizes_notes g c =
    prints_stopped part_note _ c.from_residual-in_err-sizes_notes.ensures.0 (prints_then _ c.in_ok-nodes_note.ensures c.in_err-sizes_notes.ensures)

pub returns : goal.returns
returns g c = prints_then _ (prints_then (Ok tt) c.in_ok-nodes_note.ensures c.in_ok-sizes_notes.ensures) c.part_note.ensures

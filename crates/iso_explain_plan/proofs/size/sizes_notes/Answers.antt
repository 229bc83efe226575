use Rattle.std.proofs.Common.{ap}
use Rattle.std.proofs.lemmas.Result.{err_from_is_err_and}
use Rattle.iso_explain_plan.specs.Sizes.{sizes_notes}
use Rattle.iso_tap.proofs.PrinterLemmas.{drop_next, left_cut, left_next}
use Rattle.iso_explain_plan.proofs.size.sizes_notes.Goals as goal

pub returns-in_err-size_note : goal.returns-in_err-size_note
returns-in_err-size_note g c =
    let p = err_from_is_err_and c.from_residual.result c.from_residual.ensures.1 in
    let next = ap sizes_notes (drop_next c.args.sizes.now c.loop-size.size-index _ c.loop-size-test.true) in
    rw p.1 (left_cut _ _ p.0 next c.loop-size.invariant c.in_err-size_note.ensures)

pub loop-size-preserved : goal.loop-size-preserved
loop-size-preserved g c =
    let next = ap sizes_notes (drop_next c.args.sizes.now c.loop-size.size-index _ c.loop-size-test.true) in
    left_next next c.loop-size.invariant c.in_ok-size_note.ensures

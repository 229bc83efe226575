use Rattle.std.proofs.lemmas.Result.{err_from_is_err_and}
use Rattle.iso_plan.specs.RowView.{tree_of}
use Rattle.iso_tap.proofs.PrinterLemmas.{left_cut, left_next}
use Rattle.iso_trace.proofs.TraceLemmas.{waits-next}
use Rattle.iso_trace.proofs.wait.wait_events.Goals as goal

pub returns-in_err-wait_event : goal.returns-in_err-wait_event
returns-in_err-wait_event g c =
    let p = err_from_is_err_and c.from_residual.result c.from_residual.ensures.1 in
    rw p.1 (left_cut _ _ p.0 (waits-next (tree_of c.args.run.now.plan.now) c.args.waits.now c.loop-id.id _ c.loop-id-test.true) c.loop-id.invariant c.in_err-wait_event.ensures)

pub loop-id-preserved : goal.loop-id-preserved
loop-id-preserved g c =
    left_next (waits-next (tree_of c.args.run.now.plan.now) c.args.waits.now c.loop-id.id _ c.loop-id-test.true) c.loop-id.invariant c.in_ok-wait_event.ensures

use Rattle.std.proofs.Common.{◌<◌, arith}
use Rattle.std.proofs.lemmas.Result.{err_from_is_err_and}
use Rattle.iso_tap.proofs.PrinterLemmas.{left_cut, left_next}
use Rattle.iso_trace.proofs.TraceLemmas.{threads-next}
use Rattle.iso_trace.proofs.trace.threads.Goals as goal

pub returns-in_err-thread : goal.returns-in_err-thread
returns-in_err-thread g c =
    let here : c.workers.worker < c.args.workers = omega arith in
    let p = err_from_is_err_and c.from_residual.result c.from_residual.ensures.1 in
    rw p.1 (left_cut _ _ p.0 (threads-next c.args.workers c.workers.worker here) c.workers.invariant c.in_err-thread.ensures)

pub workers-preserved : goal.workers-preserved
workers-preserved g c =
    let here : c.workers.worker < c.args.workers = omega arith in
    left_next (threads-next c.args.workers c.workers.worker here) c.workers.invariant c.in_ok-thread.ensures

use Rattle.std.proofs.lemmas.Result.{err_from_is_err_and}
use Rattle.iso_run.proofs.workers.run_on_floor.Goals as goal

pub returns-in_err-others-clause-fault : goal.returns-in_err-others-clause-fault
returns-in_err-others-clause-fault g c =
    let p = err_from_is_err_and c.from_residual-in_err-others.result c.from_residual-in_err-others.ensures.1 in
    rw (p.1, p.2) (rw c.workers-workers.ensures at (rw c.in_ok-floor.ensures at c.in_err-others.ensures.fault))

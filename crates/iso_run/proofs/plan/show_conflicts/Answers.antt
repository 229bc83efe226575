use Rattle.std.proofs.Common.{true, refl}
use Rattle.std.proofs.lemmas.Result.{err_from_is_err_and}
use Rattle.iso_run.specs.Runs.{suite_conflicts}
use Rattle.iso_run.specs.Suites.{suite_of}
use Rattle.iso_run.specs.declared.way.Way.TheVariants.{Serial}
use Rattle.iso_run.proofs.Lending.{out-of-memory}
use Rattle.iso_run.proofs.Reporting.{cut-off}
use Rattle.iso_run.proofs.Unread.{unread-unwritten}
use Rattle.iso_run.proofs.plan.show_conflicts.Goals as goal

pub returns-in_err-suite : goal.returns-in_err-suite
returns-in_err-suite g c =
    let p = err_from_is_err_and c.from_residual.result c.from_residual.ensures.1 in
    rw (p.1, p.2) (unread-unwritten (λ _. true) suite_conflicts c.args.inputs Serial (g.W.Sink.account c.args.sink.now) c.in_err-suite.field-0.0 c.in_err-suite.ensures)

pub returns-in_err-tests : goal.returns-in_err-tests
returns-in_err-tests g c =
    let p = err_from_is_err_and c.from_residual-in_err-tests.result c.from_residual-in_err-tests.ensures.1 in
    rw (p.1, p.2) (out-of-memory (λ _. true) suite_conflicts c.args.inputs Serial (g.W.Sink.account c.args.sink.now))

pub returns-in-Ok : goal.returns-in-Ok
returns-in-Ok g c =
    let is = c.in_ok-suite.ensures in
    let wrote = rw (is.planned_as, c.workers.ensures) at c.in-Ok.ensures.wrote in
    record { cause = tt; leaves = (refl, (suite_of c.args.inputs c.in_ok-suite.suite, is.is_suite, (wrote, refl))) }

pub returns : goal.returns
returns g c =
    let is = c.in_ok-suite.ensures in
    let took = rw (is.planned_as, c.workers.ensures) at c.in-Err.ensures.took in
    let cut = rw (is.planned_as, c.workers.ensures) at c.in-Err.ensures.cut in
    cut-off (λ _. true) suite_conflicts c.args.inputs Serial (suite_of c.args.inputs c.in_ok-suite.suite) is.is_suite refl (g.W.Sink.account c.args.sink.now)
    (g.W.Sink.account c.write_conflicts.new.sink) _
    (record { written = c.in-Err.fault.written; is = refl; took = took; within = cut; failed = c.in-Err.ensures.failed })

use Rattle.std.proofs.Common.{Bool, subst}
use Rattle.std.proofs.lemmas.Result.{err_from_is_err_and}
use Rattle.iso_run.specs.Runs.{IsRead, suite_report}
use Rattle.iso_run.specs.declared.report.Summary.{Summary}
use Rattle.iso_run.specs.declared.way.Way.TheVariants.{BySchedule}
use Rattle.iso_run.proofs.Unread.{unread-unwritten}
use Rattle.iso_run.proofs.replay.run_schedule.Goals as goal

pub returns-in_err-suite-clause-report : goal.returns-in_err-suite-clause-report
returns-in_err-suite-clause-report g c =
    let p = err_from_is_err_and c.from_residual.result c.from_residual.ensures.1 in
    rw (p.1, p.2) (unread-unwritten (λ (s : Summary). s.all_ok) suite_report c.args.inputs (BySchedule c.args.schedule) (g.W.Sink.account c.args.sink.now) c.in_err-suite.field-0.0
    c.in_err-suite.ensures)

pub replay_on-requires : goal.replay_on-requires
replay_on-requires g c = subst (λ (keeps : Bool). IsRead c.args.inputs keeps c.in_ok-suite.suite) c.wants_places.ensures c.in_ok-suite.ensures

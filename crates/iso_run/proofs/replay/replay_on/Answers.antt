use Rattle.std.proofs.lemmas.Result.{err_from_is_err_and}
use Rattle.iso_run.proofs.Replaying.{unread}
use Rattle.iso_telling.specs.Telling.{wants_places}
use Rattle.iso_run.proofs.replay.replay_on.Goals as goal

pub returns-in_err-events-clause-report : goal.returns-in_err-events-clause-report
returns-in_err-events-clause-report g c =
    let p = err_from_is_err_and c.from_residual.result c.from_residual.ensures.1 in
    rw (p.1, p.2) (unread c.args.inputs c.args.schedule (g.W.Sink.account c.args.sink.now) c.args.suite.now c.in_err-events.field-0.0 (wants_places c.args.tells.now) c.requires
    c.in_err-events.ensures.answered)

pub returns-clause-report : goal.returns-clause-report
returns-clause-report g c = c.replay_events.ensures.report c.args.schedule (rw (← c.deref.ensures.value) at c.in_ok-events.ensures.answered)

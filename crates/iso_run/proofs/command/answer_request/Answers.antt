use Rattle.std.proofs.Common.{subst}
use Rattle.iso_run.proofs.Answering.{answered-as}
use Rattle.iso_arguments.specs.RequestBounds.{IsPlainRun}
use Rattle.iso_run.proofs.command.answer_request.Goals as goal
use Rattle.iso_run.specs.Commands.{IsPrintedFor, IsWrittenFor}
use Rattle.iso_run.specs.Runs.{suite_conflicts}
use Rattle.iso_run.specs.declared.command.Printed.{Printed}
use Rattle.iso_run.specs.declared.way.Way.TheVariants.{Serial}

pub returns-in-Plan-clause-answers : goal.returns-in-Plan-clause-answers
returns-in-Plan-clause-answers g c =
    let input = g.R.Read.remaining c.args.input.now in
    let old = g.W.Sink.account c.args.output.now in
    let new = g.W.Sink.account c.answer_plan.new.output in
    let printed : Printed = record { tests = c.in-Plan.tests; places = c.in-Plan.places; why = c.in-Plan.why } in
    rw c.in-Plan.is (answered-as (IsPrintedFor printed c.in-Plan.files input old new) _ (λ ok h. h) ⊥ _ (λ h. absurd h) old new c.answer_plan.result c.answer_plan.ensures)

pub returns-in-Conflicts-clause-answers : goal.returns-in-Conflicts-clause-answers
returns-in-Conflicts-clause-answers g c =
    let input = g.R.Read.remaining c.args.input.now in
    let old = g.W.Sink.account c.args.output.now in
    let new = g.W.Sink.account c.answer_conflicts.new.output in
    rw c.in-Conflicts.is (answered-as (IsWrittenFor suite_conflicts c.in-Conflicts.files input Serial old new) _ (λ ok h. h) ⊥ _ (λ h. absurd h) old new
    c.answer_conflicts.result c.answer_conflicts.ensures)

pub returns-in-Run-clause-answers : goal.returns-in-Run-clause-answers
returns-in-Run-clause-answers g c = rw c.in-Run.is c.answer_run.ensures.answers

pub returns-in-Run-clause-refused : goal.returns-in-Run-clause-refused
returns-in-Run-clause-refused g c = λ plain. c.answer_run.ensures.refused (subst IsPlainRun c.in-Run.is plain)

pub returns-in-Run-clause-quiet : goal.returns-in-Run-clause-quiet
returns-in-Run-clause-quiet g c = λ plain. c.answer_run.ensures.quiet (subst IsPlainRun c.in-Run.is plain)

pub returns-in-Replay-clause-answers : goal.returns-in-Replay-clause-answers
returns-in-Replay-clause-answers g c = rw c.in-Replay.is c.answer_replay.ensures

use Rattle.std.proofs.Common.{◌≡◌, [], None, true, false, sym, refl, ◌∙◌}
use Rattle.std.proofs.lemmas.Result.{err_from_is_err_and}
use Rattle.iso_core.specs.Cores.{is_complete}
use Rattle.iso_run.specs.Runs.{as_written}
use Rattle.iso_run.specs.Suites.{suite_of}
use Rattle.iso_run.specs.declared.way.Way.TheVariants.{BySchedule}
use Rattle.iso_run.proofs.Replaying.{played, results-plan, results-start, stopped}
use Rattle.iso_run.proofs.Reporting.{reported, told}
use Rattle.iso_telling.specs.Telling.{wants_places}
use Rattle.iso_run.proofs.replay.replay_events.Goals as goal

pub returns-in_err-core-clause-report : goal.returns-in_err-core-clause-report
returns-in_err-core-clause-report g c = λ schedule read.
    let inputs = c.args.inputs in
    let is = c.requires in
    let keeps = wants_places c.args.tells.now in
    let p = err_from_is_err_and c.from_residual.result c.from_residual.ensures.1 in
    rw (p.1, p.2) (stopped inputs schedule c.args.suite.now c.args.events.now keeps is read (g.W.Sink.account c.args.sink.now) c.in_err-core.field-0.0.index c.in_err-core.field-0.0.fault
    (rw c.workers-workers.ensures at c.in_err-core.ensures))

pub returns-then-not-is_complete-clause-report : goal.returns-then-not-is_complete-clause-report
returns-then-not-is_complete-clause-report g c = λ schedule read.
    let inputs = c.args.inputs in
    let is = c.requires in
    let keeps = wants_places c.args.tells.now in
    let ran = rw c.workers-workers.ensures at c.in_ok-core.ensures in
    let left : is_complete c.in_ok-core.core ≡ false = sym c.is_complete.ensures ∙ c.if-not-is_complete.true in
    record { cause = played inputs schedule c.args.suite.now c.args.events.now keeps is read c.in_ok-core.core false ran left; leaves = refl }

pub write_results-requires-clause-complete : goal.write_results-requires-clause-complete
write_results-requires-clause-complete g c =
    let whole : is_complete c.in_ok-core.core ≡ true = sym c.is_complete.ensures ∙ c.if-not-is_complete.false in
    c.results.ensures.complete whole

pub returns-clause-report : goal.returns-clause-report
returns-clause-report g c = λ schedule read.
    let inputs = c.args.inputs in
    let is = c.requires in
    let keeps = wants_places c.args.tells.now in
    let suite = c.args.suite.now in
    let events = c.args.events.now in
    let core = c.in_ok-core.core in
    let results = c.results.result.now in
    let ran = rw c.workers-workers.ensures at c.in_ok-core.ensures in
    let whole : is_complete core ≡ true = sym c.is_complete.ensures ∙ c.if-not-is_complete.false in
    reported inputs (g.W.Sink.account c.args.sink.now) (g.W.Sink.account c.write_results.new.sink) (suite_of inputs suite) suite.plan results is.is_suite is.planned_as
    (results-plan suite events core results ran c.results.ensures.plan) (results-start suite events core results ran c.results.ensures.start)
    (BySchedule schedule) (played inputs schedule suite events keeps is read core true ran whole) c.write_results.result c.write_results.ensures.report

pub returns-clause-told : goal.returns-clause-told
returns-clause-told g c =
    let inputs = c.args.inputs in
    let is = c.requires in
    let suite = c.args.suite.now in
    let events = c.args.events.now in
    let core = c.in_ok-core.core in
    let results = c.results.result.now in
    let ran = rw c.workers-workers.ensures at c.in_ok-core.ensures in
    told inputs (g.W.Sink.account c.args.sink.now) (g.W.Sink.account c.write_results.new.sink) (suite_of inputs suite) suite.plan results is.is_suite is.planned_as
    (results-plan suite events core results ran c.results.ensures.plan) (results-start suite events core results ran c.results.ensures.start)
    (as_written suite inputs.scripts.now) [] None c.args.tells.now c.write_results.new.tells refl is.placed c.write_results.result c.write_results.ensures.told

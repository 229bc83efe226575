use Rattle.std.proofs.Common.{refl, sym, subst, is_some, Option, option_map, ◌∙◌}
use Rattle.std.proofs.lemmas.Result.{err_from_is_err_and}
use Rattle.iso_run.specs.Runs.{suite_report, as_written}
use Rattle.iso_run.specs.Suites.{suite_of}
use Rattle.iso_run.specs.declared.report.Summary.{Summary}
use Rattle.iso_run.specs.declared.way.Way.TheVariants.{ByWorkers}
use Rattle.iso_run.proofs.Coursing.{course-told, watched-of}
use Rattle.iso_run.proofs.Reporting.{reported, told-run}
use Rattle.iso_run.specs.Watches.{WasWatched}
use Rattle.iso_telling.specs.Pages.{WatchedView, watched_of}
use Rattle.iso_run.proofs.Unread.{unread-unwritten}
use Rattle.iso_run.proofs.Working.{unworked}
use Rattle.iso_run.proofs.workers.run_workers_shown.Goals as goal

pub returns-in_err-suite-clause-report : goal.returns-in_err-suite-clause-report
returns-in_err-suite-clause-report g c =
    let p = err_from_is_err_and c.from_residual.result c.from_residual.ensures.1 in
    rw (p.1, p.2) (unread-unwritten (λ (s : Summary). s.all_ok) suite_report c.args.inputs ByWorkers (g.W.Sink.account c.args.sink.now) c.in_err-suite.field-0.0 c.in_err-suite.ensures)

pub returns-in_err-ran-clause-report : goal.returns-in_err-ran-clause-report
returns-in_err-ran-clause-report g c =
    let p = err_from_is_err_and c.from_residual-in_err-ran.result c.from_residual-in_err-ran.ensures.1 in
    rw (p.1, p.2) (unworked (λ (s : Summary). s.all_ok) suite_report c.args.inputs (g.W.Sink.account c.args.sink.now) (suite_of c.args.inputs c.in_ok-suite.suite) c.in_err-ran.field-0.0
    c.in_ok-suite.ensures.is_suite c.in_err-ran.ensures.fault)

pub write_results-written-requires-clause-complete : goal.write_results-written-requires-clause-complete
write_results-written-requires-clause-complete g c = c.results.ensures.complete c.in_ok-ran.ensures.complete

pub returns-clause-report : goal.returns-clause-report
returns-clause-report g c =
    let suite = c.in_ok-suite.suite in
    let is = c.in_ok-suite.ensures in
    let on = c.in_ok-ran.ensures.book in
    reported c.args.inputs (g.W.Sink.account c.args.sink.now) (g.W.Sink.account c.write_results-written.new.sink) (suite_of c.args.inputs suite) suite.plan c.results.result.now is.is_suite
    is.planned_as
    (c.results.ensures.plan ∙ on.plan_is) (c.results.ensures.start ∙ on.world_is) ByWorkers (suite_of c.args.inputs suite, is.is_suite, tt)
    c.write_results-written.result c.write_results-written.ensures.report

pub returns-clause-told : goal.returns-clause-told
returns-clause-told g c =
    let suite = c.in_ok-suite.suite in
    let is = c.in_ok-suite.ensures in
    let on = c.in_ok-ran.ensures.book in
    let seen = option_map watched_of c.watched.result in
    let asked = is_some c.args.tells.now.html in
    let of = watched-of c.args.inputs _ c.in_ok-suite.suite c.in_ok-suite.ensures ByWorkers asked seen
    (subst (λ (w : Option WatchedView). WasWatched ByWorkers c.in_ok-suite.suite.plan c.in_ok-suite.suite.world c.in_ok-suite.suite.settings.worker_count asked w) (sym c.watched.ensures)
    c.in_ok-ran.ensures.watched) in
    told-run c.args.inputs (g.W.Sink.account c.args.sink.now) (g.W.Sink.account c.write_results-written.new.sink) (suite_of c.args.inputs suite) suite.plan c.results.result.now is.is_suite
    is.planned_as
    (c.results.ensures.plan ∙ on.plan_is) (c.results.ensures.start ∙ on.world_is) ByWorkers (as_written suite c.args.inputs.scripts.now) c.deref.result.now
    seen c.args.tells.now c.write_results-written.new.tells
    of refl (λ wants. is.placed (c.wants_places.ensures ∙ wants)) c.write_results-written.result c.write_results-written.ensures.told

pub returns-clause-course : goal.returns-clause-course
returns-clause-course g c =
    course-told c.args.inputs _ c.in_ok-suite.suite c.in_ok-suite.ensures ByWorkers c.args.course.now c.run_timed-ran.new.course c.write_results-written.result c.in_ok-ran.ensures.course

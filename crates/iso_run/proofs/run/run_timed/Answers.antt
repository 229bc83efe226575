use Rattle.std.proofs.Common.{Bool, is_some, refl, subst}
use Rattle.iso_run.proofs.Coursing.{course-of, watched-by}
use Rattle.iso_run.specs.Courses.{AreEvents, IsRunOf, ObservedView}
use Rattle.iso_run.specs.Watches.{IsWatch}
use Rattle.iso_run.specs.declared.way.Way.TheVariants.{Serial}
use Rattle.iso_run.proofs.run.run_timed.Goals as goal

pub returns-clause-course : goal.returns-clause-course
returns-clause-course g c =
    let s = c.args.suite.now in
    let w = s.settings.worker_count in
    course-of (AreEvents Serial s.plan s.world w) Serial s.plan s.world w _
    (record {
      plan_is = refl;
      results_plan = c.in_ok-results.ensures.plan;
      results_start = c.in_ok-results.ensures.start;
      complete = c.in_ok-results.ensures.complete;
      started = refl;
      of =
          c.workers.ensures;
    })
    c.args.course.now c.observe.new.course _ c.in_ok-watch.ensures.course refl refl c.in_ok-tell_alone.ensures

pub returns-clause-watched : goal.returns-clause-watched
returns-clause-watched g c =
    let s = c.args.suite.now in
    let w = s.settings.worker_count in
    let run : ObservedView = record { plan = s.plan; results = c.in_ok-results.results; times = c.into_times-times.result; started = 1; of = c.workers.result } in
    let is : IsRunOf Serial s.plan s.world w run =
    record {
      plan_is = refl;
      results_plan = c.in_ok-results.ensures.plan;
      results_start = c.in_ok-results.ensures.start;
      complete = c.in_ok-results.ensures.complete;
      started = refl;
      of =
          c.workers.ensures;
    } in
    let known = subst (λ (asked : Bool). IsWatch run asked c.in_ok-watch.watch) c.wants_watched.ensures c.in_ok-watch.ensures.watch in
    watched-by Serial s.plan s.world w run is (is_some c.args.tells.now.html) c.in_ok-watch.watch known

use Rattle.std.proofs.Common.{ℕ, Bool, ◌∙◌, is_some, refl, subst}
use Rattle.std.proofs.lemmas.Result.{err_from_is_err_and}
use Rattle.iso_plan.specs.Planned.{Planned}
use Rattle.iso_settings.specs.Worlds.{Start}
use Rattle.iso_run.specs.Courses.{AreEvents, IsRunOf, IsScheduled, ObservedView}
use Rattle.iso_run.specs.Watches.{IsWatch}
use Rattle.iso_run.specs.declared.course.Course.{Course}
use Rattle.iso_run.specs.declared.way.Way.TheVariants.{ByWorkers}
use Rattle.iso_run.proofs.Coursing.{course-of, watched-by}
use Rattle.iso_run.proofs.workers.run_timed.Goals as goal

pub returns-clause-course : goal.returns-clause-course
returns-clause-course g c =
    let ground = g.L.Ground in
    let book = c.in_ok-book.field-0.book in
    let on = c.in_ok-book.ensures.book in
    let run : ObservedView = record {
      plan = c.args.suite.now.plan;
      results = c.results.result.now;
      times = c.into_times-times.result;
      started = c.in_ok-book.field-0.started;
      of =
          c.workers.result;
    } in
    let is : IsRunOf ByWorkers ground.plan ground.start ground.workers run = record {
      plan_is = c.requires.plan;
      results_plan = c.results.ensures.plan ∙ on.plan_is;
      results_start = c.results.ensures.start ∙ on.world_is;
      complete = c.results.ensures.complete c.in_ok-book.ensures.complete;
      started = c.in_ok-book.ensures.started;
      of = c.workers.ensures ∙ c.requires.workers;
    } in
    let seen = c.observe.new.course in
    let asked = c.tell_book.new.asked in
    let new : Course = record { schedule = asked; trace = seen.trace; stats = seen.stats } in
    let planned = subst (λ (p : Planned). IsScheduled (AreEvents ByWorkers p book.world book.workers) seen.schedule asked) on.plan_is c.in_ok-tell_book.ensures in
    let started = subst (λ (s : Start). IsScheduled (AreEvents ByWorkers ground.plan s book.workers) seen.schedule asked) on.world_is planned in
    let manned = subst (λ (n : ℕ). IsScheduled (AreEvents ByWorkers ground.plan ground.start n) seen.schedule asked) on.workers_are started in
    course-of (AreEvents ByWorkers ground.plan ground.start ground.workers) ByWorkers ground.plan ground.start ground.workers run is c.args.course.now seen new c.in_ok-watch.ensures.course
    refl refl manned

pub returns-clause-watched : goal.returns-clause-watched
returns-clause-watched g c =
    let ground = g.L.Ground in
    let on = c.in_ok-book.ensures.book in
    let run : ObservedView = record {
      plan = c.args.suite.now.plan;
      results = c.results.result.now;
      times = c.into_times-times.result;
      started = c.in_ok-book.field-0.started;
      of =
          c.workers.result;
    } in
    let is : IsRunOf ByWorkers ground.plan ground.start ground.workers run = record {
      plan_is = c.requires.plan;
      results_plan = c.results.ensures.plan ∙ on.plan_is;
      results_start = c.results.ensures.start ∙ on.world_is;
      complete = c.results.ensures.complete c.in_ok-book.ensures.complete;
      started = c.in_ok-book.ensures.started;
      of = c.workers.ensures ∙ c.requires.workers;
    } in
    let known = subst (λ (asked : Bool). IsWatch run asked c.in_ok-watch.watch) c.wants_watched.ensures c.in_ok-watch.ensures.watch in
    watched-by ByWorkers ground.plan ground.start ground.workers run is (is_some c.args.tells.now.html) c.in_ok-watch.watch known

pub returns-in_err-tell_book-clause-fault : goal.returns-in_err-tell_book-clause-fault
returns-in_err-tell_book-clause-fault g c =
    let p = err_from_is_err_and c.from_residual-in_err-tell_book.result c.from_residual-in_err-tell_book.ensures.1 in
    rw (p.1, p.2) tt

pub returns-in_err-node_times-clause-fault : goal.returns-in_err-node_times-clause-fault
returns-in_err-node_times-clause-fault g c =
    let p = err_from_is_err_and c.from_residual-in_err-node_times.result c.from_residual-in_err-node_times.ensures.1 in
    rw (p.1, p.2) tt

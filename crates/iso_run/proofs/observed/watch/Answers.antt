use Rattle.std.proofs.Common.{Bool, true, List, Some, ap, subst, sym, ◌∙◌}
use Rattle.iso_critical.specs.Critical.{critical, run_of}
use Rattle.iso_run.specs.Courses.{AreFigures, observed_of}
use Rattle.iso_run.specs.Watches.{IsWatch}
use Rattle.iso_run.specs.declared.watch.Watch.{Watch}
use Rattle.iso_waits.specs.declared.wait.NodeWait.{NodeWait}
use Rattle.iso_run.proofs.observed.watch.Goals as goal

pub returns : goal.returns
returns c =
    let run = observed_of c.args.run.now in
    let told = c.in_ok-figures.ensures in
    let figures : AreFigures run c.in_ok-figures.figures =
    record { tests_are = told.tests; workers_are = told.workers; of_is = told.of; span_is = told.span; busy_is = told.busy } in
    let bodies =
    c.in_ok-critical.ensures
    ∙ ap (λ (waits : List NodeWait). critical (run_of run.plan run.times waits)) (c.deref-2.ensures.value ∙ c.requires) in
    let watch : Watch = record { figures = c.in_ok-figures.figures; waits = c.args.waits; critical = c.in_ok-critical.critical } in
    let is : IsWatch run true (Some watch) = (figures, c.requires, bodies) in
    subst (λ (asked : Bool). IsWatch run asked (Some watch)) (sym c.if-not-asked.false) is

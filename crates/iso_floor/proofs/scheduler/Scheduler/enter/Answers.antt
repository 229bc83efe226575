use Rattle.std.proofs.Common.{subst}
use Rattle.iso_desk.specs.Places.{StandsIn}
use Rattle.iso_desk.specs.declared.line.Line.TheVariants.{Key}
use Rattle.iso_floor.specs.Schedulers.{SchedulerView}
use Rattle.iso_floor.proofs.scheduler.Scheduler.enter.Goals as goal

pub returns-clause-lines : goal.returns-clause-lines
returns-clause-lines c =
    λ n l st.
    subst (λ (s : SchedulerView). StandsIn s.table.places (Key l) n) c.self.view_is
    (subst (λ (s : SchedulerView). StandsIn s.table.places (Key l) n) c.rouse.ensures.rest
    (c.put.ensures.lines n l (subst (λ (s : SchedulerView). StandsIn s.table.places (Key l) n) c.renew.ensures.rest st)))

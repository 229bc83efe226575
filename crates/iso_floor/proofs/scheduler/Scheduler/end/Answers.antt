use Rattle.std.proofs.Common.{subst, sym}
use Rattle.iso_desk.specs.Places.{StandsIn}
use Rattle.iso_desk.specs.declared.line.Line.TheVariants.{Key}
use Rattle.iso_floor.specs.Schedulers.{IsMoved, SchedulerView}
use Rattle.iso_desk.specs.declared.place.Place.TheVariants.{Over}
use Rattle.iso_floor.specs.Parties.{StandRightly}
use Rattle.iso_floor.specs.Postings.{ClosesNone}
use Rattle.iso_floor.proofs.PostingLemmas.{closes-put}
use Rattle.iso_floor.proofs.scheduler.Scheduler.end.Goals as goal

pub returns-clause-lines : goal.returns-clause-lines
returns-clause-lines c =
    λ n l st.
    c.put.ensures.lines n l
    (subst (λ (s : SchedulerView). StandsIn s.table.places (Key l) n) c.renew.ensures.rest (subst (λ (s : SchedulerView). StandsIn s.table.places (Key l) n) c.count_child.ensures st))

pub returns-clause-places : goal.returns-clause-places
returns-clause-places c =
    let old = c.args.self.now.table.places in
    subst (λ (s : SchedulerView). IsMoved c.args.node Over old s.table.places) (sym c.count_child.ensures)
    (subst (λ (s : SchedulerView). IsMoved c.args.node Over old s.table.places) (sym c.renew.ensures.rest) c.put.ensures.places)

pub returns-clause-stands : goal.returns-clause-stands
returns-clause-stands c =
    λ p right.
    subst (λ (s : SchedulerView). StandRightly p s.owners s.table.places) (sym c.count_child.ensures)
    (subst (λ (s : SchedulerView). StandRightly p s.owners s.table.places) (sym c.renew.ensures.rest) (c.put.ensures.stands p right))

pub returns-clause-closes : goal.returns-clause-closes
returns-clause-closes c =
    let old = c.args.self.now.table in
    subst (λ (s : SchedulerView). ClosesNone old.places s.table.places) (sym c.count_child.ensures)
    (subst (λ (s : SchedulerView). ClosesNone old.places s.table.places) (sym c.renew.ensures.rest)
    (subst (λ (s : SchedulerView). ClosesNone old.places s.table.places) (sym c.put.ensures.step) (closes-put old c.args.node Over (λ e. cc))))

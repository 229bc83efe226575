use Rattle.std.proofs.Common.{◌≡◌, ◌∙◌, subst, sym, ap}
use Rattle.iso_floor.specs.Desks.{DeskView}
use Rattle.iso_floor.specs.Parties.{MayTry, StandRightly}
use Rattle.iso_plan.specs.Planned.{Planned}
use Rattle.iso_floor.proofs.DeskLemmas.{desk-table}
use Rattle.iso_floor.proofs.SuccessionLemmas.{turns-table}
use Rattle.iso_floor.proofs.RemainderLemmas.{left-table}
use Rattle.iso_floor.proofs.UntouchedLemmas.{untouched-waits}
use Rattle.iso_book.specs.Progress.{phase_in}
use Rattle.iso_standing.specs.declared.phase.Phase.TheVariants.{Waiting}
use Rattle.iso_floor.specs.Schedulers.{SchedulerView}
use Rattle.iso_floor.proofs.desk.Desk.wait_for.Goals as goal

pub invariant_of-self : goal.invariant_of-self
invariant_of-self g c =
    let i = c.self.inside in
    let n = c.args.node in
    let new = c.wait_for.new.self in
    let is : c.plan.result.now ≡ g.G.Ground.plan = c.plan.ensures ∙ c.self.invariant.desk.book.plan_is in
    let may : MayTry g.G.Ground.plan i.scheduler.owners n c.args.worker = subst (λ (d : DeskView). MayTry g.G.Ground.plan d.scheduler.owners n c.args.worker) (sym c.self.view_is) c.requires.own in
    let stands : StandRightly g.G.Ground.plan i.scheduler.owners i.scheduler.table.places → StandRightly g.G.Ground.plan new.owners new.table.places =
    subst (λ (x : Planned). MayTry x i.scheduler.owners n c.args.worker → StandRightly x i.scheduler.owners i.scheduler.table.places → StandRightly x new.owners new.table.places) is
    c.wait_for.ensures.stands may in
    record {
      desk = desk-table g.G.Ground.plan g.G.Ground.start g.G.Ground.workers i.book i.scheduler c.wait_for.new.self c.wait_for.ensures.rest c.wait_for.ensures.sizes
          (c.wait_for.ensures.lines g.G.Ground.plan.rows c.requires.takes) c.wait_for.ensures.places stands c.wait_for.ensures.closes c.self.invariant.desk;
      turns = λ some on.
          turns-table g.G.Ground.plan i.scheduler c.wait_for.new.self c.wait_for.ensures.rest c.wait_for.ensures.sizes c.wait_for.ensures.closes c.wait_for.ensures.places
          (c.self.invariant.turns some on);
      left = λ some on. left-table g.G.Ground.plan i.scheduler c.wait_for.new.self c.wait_for.ensures.rest c.wait_for.ensures.places (c.self.invariant.left some on);
      fresh = λ none.
          untouched-waits i.book n i.scheduler c.wait_for.new.self c.wait_for.ensures.joins c.wait_for.ensures.closes
          (subst (λ (d : DeskView). phase_in d.book n ≡ Waiting) (sym c.self.view_is) (c.is_waiting.ensures c.if-not-is_waiting.false))
          (c.self.invariant.fresh (sym (ap (λ (x : SchedulerView). x.bypassed) c.wait_for.ensures.rest) ∙ none));
      seats = c.self.invariant.seats;
      first = c.self.invariant.first;
    }

use Rattle.iso_floor.proofs.AsleepLemmas.{desk-left-asleep, desk-shuts}
use Rattle.iso_floor.proofs.DeskLemmas.{desk-members, desk-none, none-told}
use Rattle.iso_floor.proofs.NeverAsleep.{desk-never, free-by}
use Rattle.iso_floor.proofs.SuccessionLemmas.{turns-members}
use Rattle.iso_floor.proofs.RemainderLemmas.{left-members}
use Rattle.iso_floor.proofs.UntouchedLemmas.{untouched-members}
use Rattle.iso_floor.proofs.desk.Desk.wakes.Goals as goal

pub invariant_of-self : goal.invariant_of-self
invariant_of-self g c =
    let i = c.self.inside in
    record {
      desk = desk-members g.G.Ground.plan g.G.Ground.start g.G.Ground.workers i.book i.scheduler c.call.new.self c.call.ensures.marked c.call.ensures.sizes c.self.invariant.desk;
      turns = λ some on. turns-members g.G.Ground.plan i.scheduler c.call.new.self c.call.ensures.marked c.call.ensures.sizes (c.self.invariant.turns some on);
      left = λ some on. left-members g.G.Ground.plan i.scheduler c.call.new.self c.call.ensures.marked (c.self.invariant.left some on);
      fresh = λ none. untouched-members i.book i.scheduler c.call.new.self c.call.ensures.marked none c.self.invariant.fresh;
      seats = c.self.invariant.seats;
      first = c.self.invariant.first;
    }

pub returns-clause-nobody : goal.returns-clause-nobody
returns-clause-nobody g c =
    let i = c.self.inside in
    rw (← c.self.view_is) (λ none w below waits.
    desk-none g.G.Ground.plan g.G.Ground.start g.G.Ground.workers i.book i.scheduler w c.is_over-is_over.result _ c.plan.result.now c.nodes_are_a_tree.ensures c.plan.ensures c.self.invariant.desk
    (none-told c.call.result _ _ c.call.ensures.whom none w below waits))

pub returns-clause-shuts : goal.returns-clause-shuts
returns-clause-shuts g c =
    let i = c.self.inside in
    rw (← c.self.view_is) (λ none w below waits.
    desk-shuts g.G.Ground.plan g.G.Ground.start g.G.Ground.workers i.book i.scheduler c.self.invariant.desk c.plan.result.now c.nodes_are_a_tree.ensures c.plan.ensures w c.is_over-is_over.result _
    (none-told c.call.result _ _ c.call.ensures.whom none w below waits))

pub returns-clause-asleep : goal.returns-clause-asleep
returns-clause-asleep g c =
    let i = c.self.inside in
    rw (← c.self.view_is) (λ none asleep.
    desk-left-asleep g.G.Ground.plan g.G.Ground.start g.G.Ground.workers i.book i.scheduler c.self.invariant.desk c.plan.result.now c.nodes_are_a_tree.ensures c.plan.ensures
    c.history-history.ensures.run c.is_over-is_over.result (none-told c.call.result _ _ c.call.ensures.whom none) asleep)

pub returns-clause-never : goal.returns-clause-never
returns-clause-never g c =
    let i = c.self.inside in
    rw (← c.self.view_is) (λ none asleep straight.
    desk-never g.G.Ground.plan g.G.Ground.start g.G.Ground.workers i.book i.scheduler c.self.invariant.desk c.plan.result.now c.nodes_are_a_tree.ensures c.plan.ensures
    c.history-history.ensures.run c.is_over-is_over.result (none-told c.call.result _ _ c.call.ensures.whom none) c.self.invariant.turns c.self.invariant.left (c.self.invariant.fresh straight) asleep c.call.ensures.idle)

pub returns-clause-free : goal.returns-clause-free
returns-clause-free g c =
    let i = c.self.inside in
    rw (← c.self.view_is) (λ n w waits. free-by i.scheduler c.call.ensures.idle n w waits)

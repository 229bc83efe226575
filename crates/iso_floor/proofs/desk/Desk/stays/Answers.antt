use Rattle.std.proofs.Common.{◌<◌, ℕ, subst, sym}
use Rattle.iso_floor.proofs.AsleepLemmas.{desk-shuts}
use Rattle.iso_floor.proofs.DeskLemmas.{desk-members, desk-none}
use Rattle.iso_floor.proofs.SuccessionLemmas.{turns-members}
use Rattle.iso_floor.proofs.RemainderLemmas.{left-members}
use Rattle.iso_floor.proofs.UntouchedLemmas.{untouched-members}
use Rattle.iso_floor.proofs.desk.Desk.stays.Goals as goal

pub invariant_of-self : goal.invariant_of-self
invariant_of-self g c =
    let i = c.self.inside in
    record {
      desk = desk-members g.G.Ground.plan g.G.Ground.start g.G.Ground.workers i.book i.scheduler c.stays.new.self c.stays.ensures.rest c.stays.ensures.sizes c.self.invariant.desk;
      turns = λ some on. turns-members g.G.Ground.plan i.scheduler c.stays.new.self c.stays.ensures.rest c.stays.ensures.sizes (c.self.invariant.turns some on);
      left = λ some on. left-members g.G.Ground.plan i.scheduler c.stays.new.self c.stays.ensures.rest (c.self.invariant.left some on);
      fresh = λ none. untouched-members i.book i.scheduler c.stays.new.self c.stays.ensures.rest none c.self.invariant.fresh;
      seats = c.self.invariant.seats;
      first = c.self.invariant.first;
    }

pub returns-clause-nothing : goal.returns-clause-nothing
returns-clause-nothing g c =
    let i = c.self.inside in
    let d = c.self.invariant.desk in
    let w : ℕ = c.args.worker in
    rw (← c.self.view_is) (λ below yes.
    desk-none g.G.Ground.plan g.G.Ground.start g.G.Ground.workers i.book i.scheduler w c.is_over-is_over.result _ c.plan.result.now c.nodes_are_a_tree.ensures c.plan.ensures d
    ((c.stays.ensures.nothing (subst (λ (n : ℕ). w < n) (sym d.scheduler.workers_are) below)).0 yes).1)

pub returns-clause-shuts : goal.returns-clause-shuts
returns-clause-shuts g c =
    let i = c.self.inside in
    let d = c.self.invariant.desk in
    let w : ℕ = c.args.worker in
    rw (← c.self.view_is) (λ below yes.
    desk-shuts g.G.Ground.plan g.G.Ground.start g.G.Ground.workers i.book i.scheduler d c.plan.result.now c.nodes_are_a_tree.ensures c.plan.ensures w c.is_over-is_over.result _
    ((c.stays.ensures.nothing (subst (λ (n : ℕ). w < n) (sym d.scheduler.workers_are) below)).0 yes).1)

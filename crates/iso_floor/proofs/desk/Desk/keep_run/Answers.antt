use Rattle.iso_floor.proofs.AsleepLemmas.{desk-workers}
use Rattle.iso_floor.proofs.SuccessionLemmas.{preceded}
use Rattle.iso_floor.proofs.desk.Desk.keep_run.Goals as goal

pub returns-clause-workers : goal.returns-clause-workers
returns-clause-workers g c =
    let i = c.self.inside in
    rw (← c.self.view_is) (λ some.
    desk-workers g.G.Ground.plan g.G.Ground.start g.G.Ground.workers i.book i.scheduler c.self.invariant.desk c.plan.result.now c.nodes_are_a_tree.ensures c.plan.ensures
    c.history-history.ensures.run some)

pub returns-clause-turns : goal.returns-clause-turns
returns-clause-turns g c =
    let i = c.self.inside in
    rw (← c.self.view_is) (λ some on. preceded g.G.Ground.plan i.scheduler (c.self.invariant.turns some on))

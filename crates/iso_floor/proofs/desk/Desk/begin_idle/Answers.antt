use Rattle.iso_floor.proofs.DeskLemmas.{desk-members}
use Rattle.iso_floor.proofs.SuccessionLemmas.{turns-members}
use Rattle.iso_floor.proofs.RemainderLemmas.{left-members}
use Rattle.iso_floor.proofs.UntouchedLemmas.{untouched-members}
use Rattle.iso_floor.proofs.desk.Desk.begin_idle.Goals as goal

pub invariant_of-self : goal.invariant_of-self
invariant_of-self g c =
    let i = c.self.inside in
    record {
      desk = desk-members g.G.Ground.plan g.G.Ground.start g.G.Ground.workers i.book i.scheduler c.begin_wait.new.self c.begin_wait.ensures.rest c.begin_wait.ensures.sizes
          c.self.invariant.desk;
      turns = λ some on. turns-members g.G.Ground.plan i.scheduler c.begin_wait.new.self c.begin_wait.ensures.rest c.begin_wait.ensures.sizes (c.self.invariant.turns some on);
      left = λ some on. left-members g.G.Ground.plan i.scheduler c.begin_wait.new.self c.begin_wait.ensures.rest (c.self.invariant.left some on);
      fresh = λ none. untouched-members i.book i.scheduler c.begin_wait.new.self c.begin_wait.ensures.rest none c.self.invariant.fresh;
      seats = c.self.invariant.seats;
      first = c.self.invariant.first;
    }

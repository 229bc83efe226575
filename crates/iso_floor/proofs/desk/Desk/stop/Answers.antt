use Rattle.iso_floor.proofs.DeskLemmas.{desk-stopped}
use Rattle.iso_floor.proofs.SuccessionLemmas.{was-stopped}
use Rattle.iso_floor.proofs.UntouchedLemmas.{untouched-stopped}
use Rattle.iso_floor.proofs.desk.Desk.stop.Goals as goal

pub invariant_of-self : goal.invariant_of-self
invariant_of-self g c =
    let i = c.self.inside in
    record {
      desk = desk-stopped g.G.Ground.plan g.G.Ground.start g.G.Ground.workers i.book c.stop.new.self i.scheduler c.stop.ensures c.self.invariant.desk;
      turns = λ some on. absurd (was-stopped i.book c.stop.new.self c.stop.ensures on);
      left = λ some on. absurd (was-stopped i.book c.stop.new.self c.stop.ensures on);
      fresh = λ none. untouched-stopped i.book c.stop.new.self i.scheduler.table.places c.stop.ensures (c.self.invariant.fresh none);
      seats = c.self.invariant.seats;
      first = c.self.invariant.first;
    }

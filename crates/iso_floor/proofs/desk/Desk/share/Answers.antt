use Rattle.std.proofs.Common.{◌≡◌, false, subst, sym}
use Rattle.iso_floor.specs.Schedulers.{SchedulerView}
use Rattle.iso_floor.proofs.DeskLemmas.{desk-same}
use Rattle.iso_floor.proofs.SuccessionLemmas.{turns-is}
use Rattle.iso_floor.proofs.RemainderLemmas.{left-is}
use Rattle.iso_floor.specs.Untouched.{AreUntouched}
use Rattle.iso_floor.proofs.desk.Desk.share.Goals as goal

pub invariant_of-self : goal.invariant_of-self
invariant_of-self g c =
    let i = c.self.inside in
    record {
      desk = desk-same g.G.Ground.plan g.G.Ground.start g.G.Ground.workers i.book i.scheduler c.share.new.self c.share.ensures c.self.invariant.desk;
      turns = λ some on. turns-is g.G.Ground.plan i.scheduler c.share.new.self c.share.ensures (c.self.invariant.turns some on);
      left = λ some on. left-is g.G.Ground.plan i.scheduler c.share.new.self c.share.ensures (c.self.invariant.left some on);
      fresh = subst (λ (x : SchedulerView). x.bypassed ≡ false → AreUntouched i.book x.table.places) (sym c.share.ensures) c.self.invariant.fresh;
      seats = c.self.invariant.seats;
      first = c.self.invariant.first;
    }

use Rattle.std.proofs.Common.{subst}
use Rattle.iso_floor.specs.Parties.{MayTry}
use Rattle.iso_floor.proofs.seat.Seat.turn_at.Goals as goal

pub try_at-requires : goal.try_at-requires
try_at-requires g c = subst (MayTry g.G.Ground.plan c.next_for.new.self.scheduler.owners c.in-Some-next_for.node) c.worker.ensures c.in-Some-next_for.ensures.node

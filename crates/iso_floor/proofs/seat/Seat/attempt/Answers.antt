use Rattle.std.proofs.Common.{subst, sym}
use Rattle.iso_floor.specs.Desks.{DeskView}
use Rattle.iso_floor.specs.Parties.{MayTry}
use Rattle.iso_floor.proofs.seat.Seat.attempt.Goals as goal

pub wait_for-requires-clause-own : goal.wait_for-requires-clause-own
wait_for-requires-clause-own g c =
    subst (λ (d : DeskView). MayTry g.G.Ground.plan d.scheduler.owners c.args.node c.worker.result) (sym c.lock_in_the_way.ensures.book)
    (subst (MayTry g.G.Ground.plan c.args.desk.now.scheduler.owners c.args.node) (sym c.worker.ensures) c.requires)

use Rattle.std.proofs.Common.{◌+◌, ◌-◌, ◌*◌, length}
use Rattle.iso_floor.specs.Workers.{IsInside}
use Rattle.iso_locks.specs.Trays.{GoesOn}
use Rattle.iso_floor.proofs.worker.Worker.+depth.Given as goal

abbrev pub invariant-children-children : goal.invariant-children-children
invariant-children-children g l = record {
  inside : IsInside g.G.Ground.plan g.G.Ground.start l.class l.seat.tray;
  further : GoesOn l.fn.seat.tray l.seat.tray;
}

abbrev pub decreases-children : goal.decreases-children
decreases-children g l = 5 * (length g.G.Ground.plan.rows - l.class)

abbrev pub decreases-class : goal.decreases-class
decreases-class g l = 5 * (length g.G.Ground.plan.rows - l.class) + 1

abbrev pub decreases-bodies : goal.decreases-bodies
decreases-bodies g l = 5 * (length g.G.Ground.plan.rows - l.node) + 2

abbrev pub decreases-finish : goal.decreases-finish
decreases-finish g l = 5 * (length g.G.Ground.plan.rows - l.node) + 3

abbrev pub decreases-node : goal.decreases-node
decreases-node g l = 5 * (length g.G.Ground.plan.rows - l.node) + 4

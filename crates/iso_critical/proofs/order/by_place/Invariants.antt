use Rattle.std.proofs.Common.{◌≡◌, ◌*◌, map}
use Rattle.iso_critical.specs.Bodies.{body_at, has_run}
use Rattle.iso_critical.proofs.order.by_place.Given as goal
use Rattle.iso_plan.specs.KeptNodes.{those_below}

abbrev pub invariant-nodes : goal.invariant-nodes
invariant-nodes l = l.bodies.items ≡ map (body_at l.times) (those_below (has_run l.times) (2 * l.node))

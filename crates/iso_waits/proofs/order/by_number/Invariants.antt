use Rattle.std.proofs.Common.{◌≡◌}
use Rattle.iso_waits.specs.Stays.{stays_below}
use Rattle.iso_waits.proofs.order.by_number.Given as goal

abbrev pub invariant-nodes : goal.invariant-nodes
invariant-nodes l = l.stays.items ≡ stays_below l.times l.node

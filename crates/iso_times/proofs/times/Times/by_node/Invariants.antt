use Rattle.std.proofs.Common.{◌≡◌}
use Rattle.iso_times.specs.Tables.{times_by_node}
use Rattle.iso_times.proofs.times.Times.by_node.Given as goal

abbrev pub invariant-nodes : goal.invariant-nodes
invariant-nodes l = l.times.items ≡ times_by_node l.self l.node

use Rattle.std.proofs.Common.{◌≤◌, length}
use Rattle.iso_stats.proofs.serial.serial.Given as goal

abbrev pub invariant-nodes : goal.invariant-nodes
invariant-nodes l = l.node ≤ length l.plan.rows

abbrev pub decreases-nodes : goal.decreases-nodes
decreases-nodes l = l.node

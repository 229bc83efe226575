use Rattle.std.proofs.Common.{take}
use Rattle.iso_plan.specs.RowView.{tree_of}
use Rattle.iso_waits.specs.Sums.{AreSums}
use Rattle.iso_waits.proofs.sums.add_up.Given as goal

abbrev pub invariant-loop-wait : goal.invariant-loop-wait
invariant-loop-wait l = AreSums (tree_of l.told.plan) l.node (take l.wait-index l.waits) l.sums.items

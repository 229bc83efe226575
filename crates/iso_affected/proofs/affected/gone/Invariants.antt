use Rattle.std.proofs.Common.{◌≡◌}
use Rattle.iso_affected.specs.Fates.{has_gone}
use Rattle.iso_plan.specs.RowView.{tree_of}
use Rattle.iso_plan.specs.KeptNodes.{those_below}
use Rattle.iso_affected.proofs.affected.gone.Given as goal

abbrev pub invariant-nodes : goal.invariant-nodes
invariant-nodes l = l.gone.items ≡ those_below (has_gone (tree_of l.old) (tree_of l.new)) l.node

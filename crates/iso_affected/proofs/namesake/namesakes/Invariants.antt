use Rattle.std.proofs.Common.{◌≡◌}
use Rattle.iso_affected.specs.Namesakes.{namesake}
use Rattle.iso_plan.specs.Paths.{column}
use Rattle.iso_plan.specs.RowView.{tree_of}
use Rattle.iso_affected.proofs.namesake.namesakes.Given as goal

abbrev pub invariant-nodes : goal.invariant-nodes
invariant-nodes l = l.namesakes.items ≡ column (namesake (tree_of l.one) (tree_of l.other)) l.node

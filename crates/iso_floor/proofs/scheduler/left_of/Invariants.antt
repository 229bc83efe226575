use Rattle.std.proofs.Common.{◌≡◌, length}
use Rattle.iso_plan.specs.Paths.{children, column}
use Rattle.iso_plan.specs.RowView.{tree_of}
use Rattle.iso_floor.proofs.scheduler.left_of.Given as goal

abbrev pub invariant-nodes : goal.invariant-nodes
invariant-nodes l = l.left.items ≡ column (λ n. length (children (tree_of l.plan) n)) l.node

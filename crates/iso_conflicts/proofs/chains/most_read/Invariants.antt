use Rattle.std.proofs.Common.{◌≡◌, ◌-◌, filter, length, map, max}
use Rattle.std.specs.List.{range_with_len}
use Rattle.iso_conflicts.specs.Chains.{tests_in}
use Rattle.iso_conflicts.specs.Takers.{takers, takes}
use Rattle.iso_model.specs.declared.access.Access.TheVariants.{Read}
use Rattle.iso_plan.specs.NodeChains.{largest}
use Rattle.iso_plan.specs.RowView.{tree_of}
use Rattle.iso_conflicts.proofs.chains.most_read.Given as goal

-- the largest so far and that of the nodes to come
abbrev pub invariant-nodes : goal.invariant-nodes
invariant-nodes l =
    max l.most (largest (map (tests_in (tree_of l.plan)) (filter (takes (tree_of l.plan) Read l.key) (range_with_len l.node (length l.plan.rows - l.node)))))
    ≡ largest (map (tests_in (tree_of l.plan)) (takers (tree_of l.plan) Read l.key))

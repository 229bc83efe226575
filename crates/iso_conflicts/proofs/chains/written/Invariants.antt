use Rattle.std.proofs.Common.{◌≡◌, ◌+◌, ◌-◌, filter, length}
use Rattle.std.specs.List.{range_with_len, sum_by}
use Rattle.iso_conflicts.specs.Chains.{tests_in}
use Rattle.iso_conflicts.specs.Takers.{takers, takes}
use Rattle.iso_model.specs.declared.access.Access.TheVariants.{Write}
use Rattle.iso_plan.specs.RowView.{tree_of}
use Rattle.iso_conflicts.proofs.chains.written.Given as goal

-- the sum so far and that of the nodes to come
abbrev pub invariant-nodes : goal.invariant-nodes
invariant-nodes l =
    l.sum + sum_by (tests_in (tree_of l.plan)) (filter (takes (tree_of l.plan) Write l.key) (range_with_len l.node (length l.plan.rows - l.node)))
    ≡ sum_by (tests_in (tree_of l.plan)) (takers (tree_of l.plan) Write l.key)

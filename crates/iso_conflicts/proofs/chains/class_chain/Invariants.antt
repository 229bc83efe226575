use Rattle.std.proofs.Common.{◌≡◌, ◌+◌, drop, filter, length}
use Rattle.std.specs.List.{sum_by}
use Rattle.iso_conflicts.specs.Chains.{class_chain, is_same_thread, tests_in}
use Rattle.iso_plan.specs.Modes.{mode}
use Rattle.iso_plan.specs.RowView.{tree_of}
use Rattle.iso_conflicts.proofs.chains.class_chain.Given as goal

-- the sum so far and that of the children to come
abbrev pub invariant-children : goal.invariant-children
invariant-children l =
    l.sum + sum_by (tests_in (tree_of l.plan)) (filter (λ m. is_same_thread (mode (tree_of l.plan) l.plan.settings m)) (drop l.child-index l.child-items))
    ≡ class_chain (tree_of l.plan) l.plan.settings l.class

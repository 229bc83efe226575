use Rattle.std.proofs.Common.{◌≡◌, ◌+◌, ◌-◌, ◌*◌, length, take}
use Rattle.std.specs.List.{sum_by}
use Rattle.iso_lifecycle.specs.ResultViews.{outcome_in}
use Rattle.iso_plan.specs.RowView.{tree_of}
use Rattle.iso_failures.specs.BlockedInside.{blocked_at}
use Rattle.iso_failures.proofs.blocked.+blocking.Given as goal

abbrev pub decreases-blocked_within : goal.decreases-blocked_within
decreases-blocked_within l = 2 * (length l.plan.now.rows - l.node)

abbrev pub decreases-blocked_at : goal.decreases-blocked_at
decreases-blocked_at l = 2 * (length l.plan.now.rows - l.node) + 1

abbrev pub invariant-blocked_within-children : goal.invariant-blocked_within-children
invariant-blocked_within-children l = l.count ≡ sum_by (blocked_at (tree_of l.plan) (outcome_in l.results)) (take l.child-index l.child-items)

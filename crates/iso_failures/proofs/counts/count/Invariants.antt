use Rattle.std.proofs.Common.{◌≡◌}
use Rattle.iso_lifecycle.specs.ResultViews.{outcome_in}
use Rattle.iso_plan.specs.RowView.{tree_of}
use Rattle.iso_failures.specs.Counting.{counts_below}
use Rattle.iso_failures.proofs.counts.count.Given as goal

abbrev pub invariant-nodes : goal.invariant-nodes
invariant-nodes l = l.counts ≡ counts_below (tree_of l.plan) (outcome_in l.results) l.node

use Rattle.std.proofs.Common.{◌≡◌, ◌≤◌}
use Rattle.iso_plan.specs.Paths.{is_under}
use Rattle.iso_plan.specs.RowView.{tree_of}
use Rattle.iso_critical.proofs.under.is_under.Given as goal

abbrev pub invariant-up : goal.invariant-up
invariant-up l = record {
  within : l.at ≤ l.node;
  left : is_under (tree_of l.plan) l.class l.at ≡ is_under (tree_of l.plan) l.class l.node;
}

abbrev pub decreases-up : goal.decreases-up
decreases-up l = l.at

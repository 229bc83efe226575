use Rattle.std.proofs.Common.{◌≡◌, ◌≤◌}
use Rattle.iso_plan.specs.RowView.{tree_of}
use Rattle.iso_stats.specs.Measures.{tests_below}
use Rattle.iso_stats.proofs.measures.test_count.Given as goal

abbrev pub invariant-nodes : goal.invariant-nodes
invariant-nodes l = record {
  counted : l.tests ≡ tests_below (tree_of l.plan) l.node;
  few : l.tests ≤ l.node;
}

use Rattle.std.proofs.Common.{◌≡◌, count_by, take}
use Rattle.iso_affected.specs.Counting.{is_test_at}
use Rattle.iso_plan.specs.RowView.{tree_of}
use Rattle.iso_affected.proofs.counts.tests_among.Given as goal

abbrev pub invariant-nodes : goal.invariant-nodes
invariant-nodes l = l.tests ≡ count_by (is_test_at (tree_of l.plan)) (take l.node-index l.nodes)

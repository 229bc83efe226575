use Rattle.std.proofs.Common.{◌≡◌, length}
use Rattle.iso_affected.specs.Counting.{is_test_of}
use Rattle.iso_plan.specs.RowView.{tree_of}
use Rattle.iso_plan.specs.KeptNodes.{those_below}
use Rattle.iso_affected.proofs.counts.tests_of.Given as goal

abbrev pub invariant-nodes : goal.invariant-nodes
invariant-nodes l = l.tests ≡ length (those_below (is_test_of (tree_of l.plan) l.fates l.kind) l.node)

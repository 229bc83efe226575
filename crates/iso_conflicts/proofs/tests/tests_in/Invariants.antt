use Rattle.iso_conflicts.proofs.TestLemmas.{AreCounted}
use Rattle.iso_plan.specs.RowView.{tree_of}
use Rattle.iso_conflicts.proofs.tests.tests_in.Given as goal

abbrev pub invariant-nodes : goal.invariant-nodes
invariant-nodes l = AreCounted (tree_of l.plan) l.node l.counts.items

use Rattle.iso_plan.specs.RowView.{tree_of}
use Rattle.iso_waits.proofs.FirstLemmas.{AreBelow}
use Rattle.iso_waits.proofs.firsts.firsts.Given as goal

abbrev pub invariant-nodes : goal.invariant-nodes
invariant-nodes l = AreBelow (tree_of l.plan) l.node l.firsts.items

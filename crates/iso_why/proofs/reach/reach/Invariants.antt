use Rattle.iso_plan.specs.RowView.{tree_of}
use Rattle.iso_why.proofs.ReachLemmas.{Reaches}
use Rattle.iso_why.proofs.reach.reach.Given as goal

abbrev pub invariant-nodes : goal.invariant-nodes
invariant-nodes l = Reaches (tree_of l.plan) l.node l.ends.items

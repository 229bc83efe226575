use Rattle.iso_plan.specs.RowView.{tree_of}
use Rattle.iso_why.proofs.ReachLemmas.{Climbs}
use Rattle.iso_why.proofs.reach.reach_to.Given as goal

abbrev pub invariant-up : goal.invariant-up
invariant-up l = Climbs (tree_of l.plan) l.last l.node l.fn.ends.items l.ends.items

abbrev pub decreases-up : goal.decreases-up
decreases-up l = l.node

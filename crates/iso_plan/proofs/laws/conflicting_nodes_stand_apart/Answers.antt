use Rattle.iso_plan.proofs.LawLemmas.{conflict-apart}
use Rattle.iso_plan.specs.RowView.{tree_of}
use Rattle.iso_plan.proofs.laws.conflicting_nodes_stand_apart.Goals as goal

pub returns : goal.returns
returns c = conflict-apart (tree_of c.args.plan.now) c.hold_a_tree.ensures.below

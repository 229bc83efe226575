use Rattle.iso_plan.proofs.SelectionLemmas.{selection-same}
use Rattle.iso_plan.specs.RowView.{tree_of}
use Rattle.iso_plan.proofs.laws.selected_nodes_keep_their_chains.Goals as goal

pub returns : goal.returns
returns c = selection-same (tree_of c.args.plan.now) c.hold_a_tree.ensures

use Rattle.std.proofs.Common.{List, subst, sym}
use Rattle.iso_plan.specs.RowView.{tree_of}
use Rattle.iso_plan.specs.SameNodes.{IsSameNode}
use Rattle.iso_plan.specs.KeptNodes.{is_kept, number_among}
use Rattle.iso_plan.specs.Tree.{Row}
use Rattle.iso_suites.proofs.SelectedRuns.{same-outcomes}
use Rattle.iso_suites.proofs.laws.selected_nodes_have_the_results_of_the_whole_run.Goals as goal

pub returns : goal.returns
returns c = λ only is n first second runs.
    let whole = c.args.whole.now in
    let selected = c.args.selected.now in
    let m = number_among (is_kept (tree_of whole) only) n in
    let same : IsSameNode (tree_of whole) n (tree_of selected) m =
    subst (λ (rows : List Row). IsSameNode (tree_of whole) n rows m) (sym is) (c.selected_nodes_keep_their_chains.ensures only n runs.within runs.kept) in
    same-outcomes (tree_of whole) (tree_of selected) c.nodes_are_a_tree.ensures c.nodes_are_a_tree-2.ensures whole.settings selected.settings
    runs.start runs.other n m runs.in_whole.nonzero runs.in_selected.nonzero runs.within same runs.alike first second runs.in_whole runs.in_selected

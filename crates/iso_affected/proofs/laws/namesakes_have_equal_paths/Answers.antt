use Rattle.iso_affected.proofs.NamesakeLemmas.{equal-paths}
use Rattle.iso_plan.specs.RowView.{tree_of}
use Rattle.iso_affected.proofs.laws.namesakes_have_equal_paths.Goals as goal

pub returns : goal.returns
returns c = equal-paths (tree_of c.args.old.now) (tree_of c.args.new.now) c.nodes_are_a_tree.ensures c.nodes_are_a_tree-2.ensures

use Rattle.std.proofs.Common.{map}
use Rattle.iso_model.specs.ScriptView.{script_of}
use Rattle.iso_plan.proofs.TreeLemmas.{tree-is}
use Rattle.iso_plan.specs.Tree.{tree}
use Rattle.iso_selection.proofs.ShardLemmas.{none-tree}
use Rattle.iso_selection.proofs.laws.no_path_keeps_the_root_alone.Goals as goal

pub returns : goal.returns
returns c = let ss = map script_of c.args.scripts.now in none-tree (tree ss) (tree-is ss)

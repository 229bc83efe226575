use Rattle.std.proofs.Common.{map}
use Rattle.iso_model.specs.ScriptView.{script_of}
use Rattle.iso_plan.proofs.TreeLemmas.{tree-is}
use Rattle.iso_plan.specs.Tree.{tree}
use Rattle.iso_selection.proofs.ShardLemmas.{shard-named, whole-named}
use Rattle.iso_selection.proofs.laws.picked_paths_name_the_picked_nodes.Goals as goal

pub returns-clause-whole : goal.returns-clause-whole
returns-clause-whole c = let ss = map script_of c.args.scripts.now in whole-named (tree ss) (tree-is ss)

pub returns-clause-shard : goal.returns-clause-shard
returns-clause-shard c = let ss = map script_of c.args.scripts.now in shard-named (tree ss) (tree-is ss)

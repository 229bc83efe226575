use Rattle.std.proofs.Common.{map}
use Rattle.iso_model.specs.ScriptView.{script_of}
use Rattle.iso_plan.proofs.TreeLemmas.{tree-is}
use Rattle.iso_plan.specs.Tree.{tree}
use Rattle.iso_selection.proofs.ShardLemmas.{shard-kept}
use Rattle.iso_selection.proofs.laws.each_node_is_kept_by_one_shard.Goals as goal

pub returns : goal.returns
returns c = let ss = map script_of c.args.scripts.now in shard-kept (tree ss) (tree-is ss)

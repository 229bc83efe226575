use Rattle.std.proofs.Common.{map}
use Rattle.iso_model.specs.ScriptView.{script_of}
use Rattle.iso_plan.proofs.TreeLemmas.{tree-is}
use Rattle.iso_plan.specs.Tree.{tree}
use Rattle.iso_selection.specs.Picks.{picked_paths}
use Rattle.iso_selection.proofs.ShardLemmas.{shard-same}
use Rattle.iso_selection.proofs.laws.picked_nodes_keep_their_chains.Goals as goal

pub returns : goal.returns
returns c = let ss = map script_of c.args.scripts.now in λ wishes shard. shard-same (tree ss) (tree-is ss) (picked_paths (tree ss) wishes shard)

use Rattle.std.proofs.Common.{map}
use Rattle.iso_model.specs.ScriptView.{script_of}
use Rattle.iso_selection.specs.Wishes.{is_named_by}
use Rattle.iso_plan.specs.Tree.{tree}
use Rattle.iso_selection.proofs.ShardLemmas.{shard-within}
use Rattle.iso_selection.proofs.laws.each_class_goes_to_one_shard.Goals as goal

pub returns : goal.returns
returns c = λ wishes. shard-within (tree (map script_of c.args.scripts.now)) (is_named_by (tree (map script_of c.args.scripts.now)) wishes)

use Rattle.iso_conflicts.proofs.TakerLemmas.{takes-taken}
use Rattle.iso_plan.specs.RowView.{tree_of}
use Rattle.iso_conflicts.proofs.laws.listed_nodes_take_the_key.Goals as goal

pub returns : goal.returns
returns c = λ a key n h. takes-taken (tree_of c.args.plan.now) a key n h

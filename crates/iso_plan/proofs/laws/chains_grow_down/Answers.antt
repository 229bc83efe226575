use Rattle.iso_plan.proofs.PathLemmas.{chain-step}
use Rattle.iso_plan.specs.RowView.{tree_of}
use Rattle.iso_plan.proofs.laws.chains_grow_down.Goals as goal

pub returns : goal.returns
returns c = chain-step (tree_of c.args.plan.now) c.hold_a_tree.ensures.below

use Rattle.iso_plan.proofs.DepthLemmas.{chain-within}
use Rattle.iso_plan.specs.RowView.{tree_of}
use Rattle.iso_plan.proofs.laws.chains_are_within_the_depth.Goals as goal

pub returns : goal.returns
returns c = chain-within (tree_of c.args.plan.now) c.hold_a_tree.ensures

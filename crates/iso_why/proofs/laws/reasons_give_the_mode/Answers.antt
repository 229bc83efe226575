use Rattle.iso_plan.specs.RowView.{tree_of}
use Rattle.iso_why.proofs.ModeReasons.{gives-mode}
use Rattle.iso_why.proofs.laws.reasons_give_the_mode.Goals as goal

pub returns : goal.returns
returns c = λ n pos. gives-mode (tree_of c.args.plan.now) c.nodes_are_a_tree.ensures.below c.args.plan.now.settings n pos

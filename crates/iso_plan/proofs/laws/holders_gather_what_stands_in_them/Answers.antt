use Rattle.iso_plan.proofs.Gathering.{holders-gather}
use Rattle.iso_plan.specs.RowView.{tree_of}
use Rattle.iso_plan.proofs.laws.holders_gather_what_stands_in_them.Goals as goal

pub returns : goal.returns
returns c = holders-gather (tree_of c.args.plan.now) c.hold_a_tree.ensures.below

use Rattle.iso_plan.proofs.Firsts.{keys-firsts}
use Rattle.iso_plan.specs.RowView.{tree_of}
use Rattle.iso_plan.proofs.laws.keys_are_the_first_of_each.Goals as goal

pub returns : goal.returns
returns c = keys-firsts (tree_of c.args.plan.now)

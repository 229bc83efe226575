use Rattle.iso_plan.proofs.LawLemmas.{forced}
use Rattle.iso_plan.specs.RowView.{tree_of}
use Rattle.iso_plan.proofs.laws.descendants_of_writers_are_forced.Goals as goal

pub returns : goal.returns
returns c = forced (tree_of c.args.plan.now) c.hold_a_tree.ensures c.args.plan.now.settings

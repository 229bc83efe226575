use Rattle.iso_plan.proofs.LawLemmas.{covered}
use Rattle.iso_plan.specs.RowView.{tree_of}
use Rattle.iso_plan.proofs.laws.rights_are_covered_by_locks.Goals as goal

pub returns : goal.returns
returns c = covered (tree_of c.args.plan.now) c.hold_a_tree.ensures

use Rattle.iso_plan.proofs.ChildLemmas.{child-is, listed}
use Rattle.iso_plan.specs.RowView.{tree_of}
use Rattle.iso_plan.proofs.laws.children_have_their_parent.Goals as goal

pub returns : goal.returns
returns c = record {
  children = child-is (tree_of c.args.plan.now);
  listed = listed (tree_of c.args.plan.now);
}

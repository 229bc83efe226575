use Rattle.iso_plan.proofs.PathLemmas.{path-root, path-step}
use Rattle.iso_plan.specs.RowView.{tree_of}
use Rattle.iso_plan.proofs.laws.paths_lead_up.Goals as goal

pub returns : goal.returns
returns c = record {
  root = path-root (tree_of c.args.plan.now);
  step = path-step (tree_of c.args.plan.now) c.hold_a_tree.ensures.below;
}

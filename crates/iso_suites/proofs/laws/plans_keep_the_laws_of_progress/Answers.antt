use Rattle.iso_suites.proofs.Progressing.{progress-laws}
use Rattle.iso_lifecycle.specs.Subjects.{started}
use Rattle.iso_plan.specs.RowView.{tree_of}
use Rattle.iso_suites.proofs.laws.plans_keep_the_laws_of_progress.Goals as goal

pub returns : goal.returns
returns c = λ world. progress-laws (tree_of c.args.plan.now) c.nodes_are_a_tree.ensures c.args.plan.now.settings (started world)

use Rattle.iso_affected.proofs.SameRuns.{same-outcomes}
use Rattle.iso_affected.proofs.laws.nodes_that_agree_have_equal_outcomes.Goals as goal
use Rattle.iso_lifecycle.specs.Subjects.{started}
use Rattle.iso_plan.specs.RowView.{tree_of}

pub returns : goal.returns
returns c = λ before after m n p q inside agree g h.
    let old = c.args.old.now in
    let new = c.args.new.now in
    same-outcomes (tree_of old) (tree_of new) c.nodes_are_a_tree.ensures c.nodes_are_a_tree-2.ensures old.settings new.settings
    (started before) (started after) m n g.nonzero h.nonzero inside agree.classes agree.test agree.starts p q g h

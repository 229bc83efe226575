use Rattle.iso_plan.proofs.SameTrees.{same-locks, same-modes, same-rights}
use Rattle.iso_plan.proofs.WrittenLemmas.{written-the-same}
use Rattle.iso_plan.specs.RowView.{tree_of}
use Rattle.iso_plan.specs.WrittenMarks.{tree_with}
use Rattle.iso_plan.proofs.laws.written_marks_make_the_same_plan.Goals as goal

pub returns : goal.returns
returns c =
    let tree = tree_of c.args.plan.now in
    let t = c.hold_a_tree.ensures in
    let alike = written-the-same tree t c.hold_few_keys.ensures in
    record {
      keys = λ marks written. (alike marks written).keyed;
      locks = λ marks written. same-locks (tree_with tree marks) tree (alike marks written) t.below;
      modes = λ marks written. same-modes (tree_with tree marks) tree (alike marks written) t.below c.args.plan.now.settings;
      rights = λ marks written. same-rights (tree_with tree marks) tree (alike marks written) t.below;
    }

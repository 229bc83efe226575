use Rattle.std.proofs.Common.{◌≤◌, ◌∙◌, length, sym, arith}
use Rattle.iso_plan.proofs.MergeLemmas.{others-end, pass-beside, pass-lock}
use Rattle.iso_plan.proofs.conflict.conflicts.Goals as goal

pub merge-preserved-then-lock-other : goal.merge-preserved-then-lock-other
merge-preserved-then-lock-other c = record {
  place = omega (arith, c.merge-test.true);
  other = c.merge.invariant.other;
  left = pass-lock c.args.some.now c.args.others.now c.merge.place c.merge.other_place _ _ c.requires.others c.merge-test.true c.if-other_place-others.true c.if-lock-other.true
      ∙ c.merge.invariant.left;
}

pub merge-preserved : goal.merge-preserved
merge-preserved c = record {
  place = c.merge.invariant.place;
  other = omega (arith, c.if-other_place-others.true);
  left = pass-beside c.args.some.now c.args.others.now c.merge.place c.merge.other_place _ _ c.requires.some c.merge-test.true c.if-other_place-others.true
      (omega (arith, c.if-lock-other.false)) (sym c.excludes.ensures ∙ c.if-excludes.false) ∙ c.merge.invariant.left;
}

pub returns-else-other_place-others : goal.returns-else-other_place-others
returns-else-other_place-others c =
    let none : length c.args.others.now ≤ c.merge.other_place = omega (arith, c.if-other_place-others.false) in
    sym (others-end c.args.some.now c.args.others.now c.merge.place c.merge.other_place none) ∙ c.merge.invariant.left

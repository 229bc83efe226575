use Rattle.std.proofs.Common.{◌≤◌, ap₂, ◌∙◌, length, subst, sym, arith}
use Rattle.iso_plan.proofs.MergeLemmas.{locks-rise}
use Rattle.iso_plan.specs.Rising.{Rise}
use Rattle.iso_plan.specs.RowView.{tree_of}
use Rattle.iso_waits.proofs.KeyLemmas.{others-end, pass-beside, pass-lock}
use Rattle.iso_waits.specs.ContendedKeys.{first_shared}
use Rattle.iso_waits.proofs.key.contended_key.Goals as goal

pub merge-preserved-then-lock-other_lock : goal.merge-preserved-then-lock-other_lock
merge-preserved-then-lock-other_lock c =
    let some = c.locks-locks.result.now in
    let others = c.locks-others.result.now in
    let rise : Rise others = subst Rise (sym c.locks-others.ensures.locks) (locks-rise (tree_of c.args.plan.now) c.args.other) in
    record {
      place = omega (arith, c.merge-test.true);
      other = c.merge.invariant.other;
      left = pass-lock some others c.merge.place c.merge.other_place _ _ rise c.merge-test.true c.if-other_place-others.true c.if-lock-other_lock.true ∙ c.merge.invariant.left;
    }

pub merge-preserved : goal.merge-preserved
merge-preserved c =
    let some = c.locks-locks.result.now in
    let others = c.locks-others.result.now in
    let rise : Rise some = subst Rise (sym c.locks-locks.ensures.locks) (locks-rise (tree_of c.args.plan.now) c.args.node) in
    record {
      place = c.merge.invariant.place;
      other = omega (arith, c.if-other_place-others.true);
      left = pass-beside some others c.merge.place c.merge.other_place _ _ rise c.merge-test.true c.if-other_place-others.true (omega (arith, c.if-lock-other_lock.false))
          (sym c.excludes.ensures ∙ c.if-excludes.false) ∙ c.merge.invariant.left;
    }

pub returns-else-other_place-others-clause-key : goal.returns-else-other_place-others-clause-key
returns-else-other_place-others-clause-key c =
    let some = c.locks-locks.result.now in
    let others = c.locks-others.result.now in
    let none : length others ≤ c.merge.other_place = omega (arith, c.if-other_place-others.false) in
    sym (others-end some others c.merge.place c.merge.other_place none) ∙ c.merge.invariant.left ∙ ap₂ first_shared c.locks-locks.ensures.locks c.locks-others.ensures.locks

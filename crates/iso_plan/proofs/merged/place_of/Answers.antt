use Rattle.std.proofs.Common.{ap, sym, ◌∙◌, arith}
use Rattle.std.proofs.lemmas.List.{get_or_default}
use Rattle.iso_model.specs.declared.heads.Mark.{Mark}
use Rattle.iso_plan.proofs.MergedLemmas.{merges-at, merges-last, merges-full}
use Rattle.iso_plan.specs.Merged.{is_same_key, most_marks}
use Rattle.iso_plan.proofs.merged.place_of.Goals as goal

pub returns-then-is_same_key-clause-place : goal.returns-then-is_same_key-clause-place
returns-then-is_same_key-clause-place c =
    let ns = c.args.marks.now in
    let m = c.args.mark.now in
    let i = c.marks.place in
    let n = c.index-marks-place.result in
    let there = c.index-marks-place.is ∙ get_or_default ns i n m c.marks-test.true in
    let same = ap (λ (x : Mark). is_same_key x m) (sym there) ∙ sym c.is_same_key.ensures ∙ c.if-is_same_key.true in
    merges-at most_marks ns m m i (omega arith) c.marks-test.true c.marks.invariant.0 same

pub returns-clause-last : goal.returns-clause-last
returns-clause-last c = λ none less.
    let m = c.args.mark.now in
    merges-last most_marks c.args.marks.now m m less (λ j before. c.marks.invariant.0 j (omega (arith, c.marks-test.false, before)))

pub returns-clause-full : goal.returns-clause-full
returns-clause-full c = λ none full.
    let m = c.args.mark.now in
    merges-full most_marks c.args.marks.now m m full (λ j fits. c.marks.invariant.0 j (omega (arith, c.marks-test.false, full, fits)))

pub returns-then-place-eq-MOST_MARKS-clause-full : goal.returns-then-place-eq-MOST_MARKS-clause-full
returns-then-place-eq-MOST_MARKS-clause-full c = λ none full.
    let m = c.args.mark.now in
    merges-full most_marks c.args.marks.now m m full (λ j fits. c.marks.invariant.0 j (omega (arith, c.if-place-eq-MOST_MARKS.true, fits)))

use Rattle.std.proofs.Common.{◌≡◌, ◌≢◌, ◌||◌, [], ◌==◌, ◌+◌, ◌-◌, ℕ, List, Bool, false, drop, get_or, ap, sym, subst, ◌∙◌, arith}
use Rattle.std.proofs.lemmas.Bool.Decides.{nat_tests}
use Rattle.std.proofs.lemmas.List.{take_rest}
use Rattle.iso_selection.proofs.MatchLemmas.{GoesOn, some_later, at-end, goes-more, goes-none, other-byte, pattern-over, step-back, step-byte, step-star}
use Rattle.iso_selection.specs.Patterns.{is_match, star}
use Rattle.iso_selection.proofs.pattern.has_end.Goals as goal
use Rattle.iso_selection.proofs.pattern.has_end.Goals.{else-at-pattern-via-then-at-pattern+else-pattern-at-eq-STAR, else-at-pattern-via-else-at-pattern, else-at-pattern-2-via-then-at-pattern-2+else-pattern-at, else-at-pattern-2-via-else-at-pattern-2}

begun : (q : List ℕ → Bool) (n : ℕ) → n ≡ 0 → GoesOn q q n
begun q n e = subst (λ (m : ℕ). GoesOn q q m) (sym e) (goes-none q)

pub text-preserved-then-pattern-at-eq-STAR : goal.text-preserved-then-pattern-at-eq-STAR
text-preserved-then-pattern-at-eq-STAR c =
    let p = c.args.pattern.now in
    let i = c.text.invariant in
    record {
      at_in = omega arith;
      after_in = omega arith;
      place_in = omega arith;
      from_in = omega arith;
      on = begun (is_match (drop (c.text.at + 1) p)) (c.text.place - c.text.place) (omega arith);
      same = sym (step-star p c.args.text.now c.text.after c.text.at c.text.from c.text.place 0 c.if-at-pattern.true c.if-pattern-at-eq-STAR.true i.on i.from_in i.place_in) ∙ i.same;
    }

apart : (m n : ℕ) → m ≢ n → (m == n) ≡ false
apart m n h = grind (arith, nat_tests)

-- no star stands at a place of the pattern
pub text-preserved-then-pattern-at : goal.text-preserved-then-pattern-at
text-preserved-then-pattern-at c =
    let p = c.args.pattern.now in
    let t = c.args.text.now in
    let i = c.text.invariant in
    let plain : (get_or p c.text.at 0 == star) ≡ false = elim c.else-at-pattern.branch [
      | else-at-pattern-via-then-at-pattern+else-pattern-at-eq-STAR w ↦ apart (get_or p c.text.at 0) star w.if-pattern-at-eq-STAR.false
      | else-at-pattern-via-else-at-pattern w ↦ let past = w.if-at-pattern.false in let within = c.if-at-pattern-2.true in absurd (omega arith)
    ] in
    let n = c.text.place - c.text.from in
    let low = i.from_in in
    record {
      at_in = omega arith;
      after_in = omega arith;
      place_in = omega arith;
      from_in = omega arith;
      on = subst (λ (m : ℕ). GoesOn (is_match (drop c.text.after p)) (is_match (drop (c.text.at + 1) p)) m) (omega arith) (goes-more p c.text.after c.text.at n 0 c.if-at-pattern-2.true plain i.on);
      same =
          sym (ap (λ (b : Bool). b || some_later (is_match (drop c.text.after p)) (drop c.text.from t))
          (step-byte p t c.text.at c.text.place 0 0 c.if-at-pattern-2.true c.text-test.true plain c.if-pattern-at.true))
          ∙ i.same;
    }

pub text-preserved : goal.text-preserved
text-preserved c =
    let p = c.args.pattern.now in
    let t = c.args.text.now in
    let i = c.text.invariant in
    let at = c.text.at in
    let place = c.text.place in
    let low = i.from_in in
    let after = i.after_in in
    let differs : is_match (drop at p) (drop place t) ≡ false = elim c.else-at-pattern-2.branch [
      | else-at-pattern-2-via-else-at-pattern-2 w ↦ pattern-over p t at place w.if-at-pattern-2.false c.text-test.true
      | else-at-pattern-2-via-then-at-pattern-2+else-pattern-at w ↦
          let plain : (get_or p at 0 == star) ≡ false = elim c.else-at-pattern.branch [
            | else-at-pattern-via-then-at-pattern+else-pattern-at-eq-STAR v ↦ apart (get_or p at 0) star v.if-pattern-at-eq-STAR.false
            | else-at-pattern-via-else-at-pattern v ↦ let past = v.if-at-pattern.false in let within = w.if-at-pattern-2.true in absurd (omega arith)
          ] in
          other-byte p t at place 0 0 w.if-at-pattern-2.true c.text-test.true plain (apart (get_or p at 0) (get_or t place 0) w.if-pattern-at.false)
    ] in
    record {
      at_in = omega arith;
      after_in = omega arith;
      place_in = omega arith;
      from_in = omega arith;
      on = begun (is_match (drop c.text.after p)) (c.text.from + 1 - (c.text.from + 1)) (omega arith);
      same = sym (step-back p t c.text.after at c.text.from place 0 (omega arith) differs) ∙ i.same;
    }

pub returns : goal.returns
returns c =
    let i = c.text.invariant in
    c.is_match_of_nothing.ensures ∙ ap (λ (q : List ℕ). is_match q []) (take_rest c.args.pattern.now c.text.at)
    ∙ sym (at-end c.args.pattern.now c.args.text.now c.text.after c.text.at c.text.from c.text.place i.on i.from_in (omega arith)) ∙ i.same

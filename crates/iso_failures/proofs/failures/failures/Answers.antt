use Rattle.std.proofs.Common.{◌≡◌, ◌+◌, ◌++◌, ◌∷◌, [], ℕ, List, Bool, true, false, ap, sym, ◌∙◌, add-one}
use Rattle.iso_lifecycle.specs.ResultViews.{outcome_in}
use Rattle.iso_plan.proofs.NumberLemmas.{those-next, those-skip}
use Rattle.iso_plan.specs.KeptNodes.{those_below}
use Rattle.iso_failures.specs.Failures.{is_failure}
use Rattle.iso_failures.proofs.failures.failures.Goals as goal
use Rattle.iso_failures.proofs.failures.failures.Goals.{then-is_failure+in_ok-push, else-is_failure}

found_more : (passes : ℕ → Bool) (found after : List ℕ) (n : ℕ) → true ≡ passes n → found ≡ those_below passes n → after ≡ found ++ n ∷ [] → after ≡ those_below passes (n + 1)
found_more passes found after n e before more =
    more ∙ ap (λ (ns : List ℕ). ns ++ n ∷ []) before ∙ sym (ap (those_below passes) (add-one n) ∙ those-next passes n (sym e))

found_same : (passes : ℕ → Bool) (found : List ℕ) (n : ℕ) → false ≡ passes n → found ≡ those_below passes n → found ≡ those_below passes (n + 1)
found_same passes found n e before = before ∙ sym (ap (those_below passes) (add-one n) ∙ those-skip passes n (sym e))

pub nodes-preserved : goal.nodes-preserved
nodes-preserved c =
    let passes = is_failure (outcome_in c.args.results.now) in
    let n = c.nodes.node in
    elim c.if-is_failure.branch [
      | then-is_failure+in_ok-push w ↦
          rw w.failures-is (found_more passes c.nodes.failures.items _ n (sym w.if-is_failure.true ∙ c.is_failure.ensures) c.nodes.invariant w.in_ok-push.ensures.items)
      | else-is_failure w ↦
          rw w.failures-is (found_same passes c.nodes.failures.items n (sym w.if-is_failure.false ∙ c.is_failure.ensures) c.nodes.invariant)
    ]

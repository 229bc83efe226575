use Rattle.std.proofs.Common.{◌≡◌, ◌+◌, ◌++◌, ◌∷◌, [], ℕ, List, Bool, true, false, get_or, map, ap, ap₂, sym, ◌∙◌, add-one, arith}
use Rattle.std.proofs.lemmas.List.{get_or_default, map_push}
use Rattle.iso_plan.proofs.NumberLemmas.{those-next, those-skip}
use Rattle.iso_plan.specs.KeptNodes.{those_below}
use Rattle.iso_selection.proofs.pick.kept_paths.Goals as goal
use Rattle.iso_selection.proofs.pick.kept_paths.Goals.{then-kept-n+in_ok-copy+in_ok-push, else-kept-n}

kept_more : (passes : ℕ → Bool) (f : ℕ → List ℕ) (left after : List (List ℕ)) (n : ℕ) (text : List ℕ) → passes n ≡ true → text ≡ f n
    → left ≡ map f (those_below passes n) → after ≡ left ++ text ∷ [] → after ≡ map f (those_below passes (n + 1))
kept_more passes f left after n text e own before more =
    more ∙ ap₂ (λ (ts : List (List ℕ)) (t : List ℕ). ts ++ t ∷ []) before own ∙ sym (map_push f (those_below passes n) n)
    ∙ sym (ap (λ (k : ℕ). map f (those_below passes k)) (add-one n) ∙ ap (map f) (those-next passes n e))

kept_same : (passes : ℕ → Bool) (f : ℕ → List ℕ) (left : List (List ℕ)) (n : ℕ) → passes n ≡ false → left ≡ map f (those_below passes n) → left ≡ map f (those_below passes (n + 1))
kept_same passes f left n e before = before ∙ sym (ap (λ (k : ℕ). map f (those_below passes k)) (add-one n) ∙ ap (map f) (those-skip passes n e))

pub nodes-preserved : goal.nodes-preserved
nodes-preserved c =
    let n = c.nodes.n in
    let paths = c.args.paths.now in
    let kept = c.args.kept.now in
    elim c.if-kept-n.branch [
      | then-kept-n+in_ok-copy+in_ok-push w ↦
          rw w.left-is (kept_more (λ k. get_or kept k false) (λ k. get_or paths k []) c.nodes.left.items _ n _ w.if-kept-n.true
          (w.in_ok-copy.ensures ∙ w.index-paths-n.is ∙ get_or_default paths n _ [] (omega arith)) c.nodes.invariant w.in_ok-push.ensures.items)
      | else-kept-n w ↦ rw w.left-is (kept_same (λ k. get_or kept k false) (λ k. get_or paths k []) c.nodes.left.items n w.if-kept-n.false c.nodes.invariant)
    ]

-- Top-level classes, node by node.
use Rattle.std.proofs.Common.{◌≡◌, ◌+◌, ℕ, List, [], ◌∷◌, ◌++◌, Bool, true, false, cond, map, ap, sym, ◌∙◌, add-one, append-nil}
use Rattle.std.proofs.lemmas.List.{map_push}
use Rattle.iso_plan.specs.KeptNodes.{those_below}

-- those that pass, with one number more
pub those-more : (passes : ℕ → Bool) (f : ℕ → List ℕ × ℕ) (n : ℕ)
    → map f (those_below passes (n + 1)) ≡ map f (those_below passes n) ++ cond (passes n) (f n ∷ []) []
those-more passes f n = ap (λ (k : ℕ). map f (those_below passes k)) (add-one n) ∙ by (passes n)
  where
    by : (t : Bool) → map f (cond t (those_below passes n ++ n ∷ []) (those_below passes n)) ≡ map f (those_below passes n) ++ cond t (f n ∷ []) []
    by true = map_push f (those_below passes n) n
    by false = sym (append-nil (map f (those_below passes n)))

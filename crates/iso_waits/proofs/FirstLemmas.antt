-- Nodes that stand for those that take the same keys, node by node.
use Rattle.std.proofs.Common.{◌≡◌, ℕ, ◌+◌, ◌<◌, List, [], ◌∷◌, ◌++◌, length, get_or, subst, sym, ◌∙◌, ap, arith, inl, inr}
use Rattle.std.proofs.lemmas.Bool.{cases_lt}
use Rattle.std.proofs.lemmas.List.{get_or_append_left, get_or_push, length_push}
use Rattle.iso_plan.specs.Tree.{Row}
use Rattle.iso_waits.specs.KnownKeys.{AreFirsts, IsTwin}

-- these are for the nodes with a number below n
pub record AreBelow (tree : List Row) (n : ℕ) (firsts : List ℕ) : Type 0 where
  pub size : length firsts ≡ n
  pub each : (m : ℕ) → m < n → IsTwin tree m (get_or firsts m 0)

-- with one node more
pub below-push : (tree : List Row) (n first : ℕ) (firsts : List ℕ) → AreBelow tree n firsts → IsTwin tree n first → AreBelow tree (n + 1) (firsts ++ first ∷ [])
below-push tree n first firsts are twin = record {
  size = length-push;
  each = λ m h. elim (cases_lt m n) [
    | inl before ↦
        let inside : m < length firsts = let e = are.size in omega arith in
        subst (IsTwin tree m) (sym (get_or_append_left firsts (first ∷ []) 0 m inside)) (are.each m before)
    | inr after ↦
        let here : n ≡ m = omega arith in
        let at : length firsts ≡ m = are.size ∙ here in
        subst (IsTwin tree m) (sym (get_or_push firsts first 0 m at)) (subst (λ (k : ℕ). IsTwin tree k first) here twin)
  ];
}
  where
    length-push : length (firsts ++ first ∷ []) ≡ n + 1
    length-push = length_push firsts first ∙ ap (λ (k : ℕ). k + 1) are.size

-- with all nodes these are for the tree's
pub below-all : (tree : List Row) (n : ℕ) (firsts : List ℕ) → n ≡ length tree → AreBelow tree n firsts → AreFirsts tree firsts
below-all tree n firsts all are = record { size = are.size ∙ all; each = λ m h. are.each m (omega (arith, all)) }

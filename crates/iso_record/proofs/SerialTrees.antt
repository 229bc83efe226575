-- The children of a class in their order, and what stands in them.
use Rattle.std.proofs.Common.{◌≡◌, ℕ, zero, suc, ◌<◌, ◌+◌, List, [], ◌∷◌, ◌++◌, ◌⊎◌, length, get_or, Bool, true, false, ◌==◌, ◌&&◌, not, cond, sym, subst, arith, inl, inr}
use Rattle.std.proofs.lemmas.Bool.{cases_lt}
use Rattle.std.proofs.lemmas.List.{length-append, get_or_append_left, get_or_push}
use Rattle.iso_isolation.proofs.Locks.{on_le, on_split}
use Rattle.iso_isolation.specs.Languages.{Language}
use Rattle.iso_isolation.specs.Suites.{On, Suite, SuiteLaws, same, up}
use Rattle.iso_plan.proofs.ChildLemmas.{child-below}
use Rattle.iso_plan.specs.Paths.{children, children_below, is_root, parent}
use Rattle.iso_plan.specs.Tree.{Row}

module _ (tree : List Row) (m : ℕ) where
  rising_push : (l i j : ℕ) → ((i j : ℕ) → i < j → j < length (children_below tree m l) → get_or (children_below tree m l) i 0 < get_or (children_below tree m l) j 0)
      → i < j → j < length (children_below tree m l ++ l ∷ []) → get_or (children_below tree m l ++ l ∷ []) i 0 < get_or (children_below tree m l ++ l ∷ []) j 0
  rising_push l i j ih less within =
      let before = children_below tree m l in
      let count : length (before ++ l ∷ []) ≡ length before + 1 = length-append before (l ∷ []) in
      elim (cases_lt j (length before)) [
        | inl h ↦ rw (get_or_append_left before (l ∷ []) 0 i (omega arith), get_or_append_left before (l ∷ []) 0 j h) (ih i j less h)
        | inr h ↦
            let last : length before ≡ j = omega arith in
            rw (get_or_append_left before (l ∷ []) 0 i (omega arith), get_or_push before l 0 j last) ((child-below tree m l i (omega arith)).within)
      ]

  rising_by : (l i j : ℕ) (t : Bool) → ((i j : ℕ) → i < j → j < length (children_below tree m l) → get_or (children_below tree m l) i 0 < get_or (children_below tree m l) j 0)
      → i < j → j < length (cond t (children_below tree m l ++ l ∷ []) (children_below tree m l))
      → get_or (cond t (children_below tree m l ++ l ∷ []) (children_below tree m l)) i 0 < get_or (cond t (children_below tree m l ++ l ∷ []) (children_below tree m l)) j 0
  rising_by l i j true ih less within = rising_push l i j ih less within
  rising_by l i j false ih less within = ih i j less within

  rising_below : (l i j : ℕ) → i < j → j < length (children_below tree m l) → get_or (children_below tree m l) i 0 < get_or (children_below tree m l) j 0
  rising_below zero i j less within = absurd (omega arith)
  rising_below (suc l) i j less within = rising_by l i j (not (is_root l) && parent tree l == m) (rising_below l) less within

  -- children stand in the order of their numbers
  pub rising : (i j : ℕ) → i < j → j < length (children tree m) → get_or (children tree m) i 0 < get_or (children tree m) j 0
  rising i j less within = rising_below (length tree) i j less within

module _ {H K V B F R : Type 0} (l : Language H K V B F R) (x : Suite H K V) (plan : SuiteLaws l x) where
  one_path : {a b n : ℕ} → On x a n → On x b n → On x a b ⊎ On x b a
  one_path same q = inr q
  one_path {a} {b} {n} (up nz on) q = elim (on_split x q) [
    | inl e ↦ inl (subst (λ (j : ℕ). On x a j) (sym e) (up nz on))
    | inr r ↦ one_path on r.1
  ]

  lone : {a b c : ℕ} → (a ≡ 0 → ⊥) → x.parent a ≡ c → x.parent b ≡ c → On x a b → a ≡ b
  lone {a} {b} {c} nz p q on = elim (on_split x on) [
    | inl e ↦ e
    | inr r ↦
        let low = on_le l x plan r.1 in
        let below = plan.below a nz in
        absurd (omega arith)
  ]

  -- a node stands in one child of a class at most
  pub one_child : {a b c n : ℕ} → (a ≡ 0 → ⊥) → (b ≡ 0 → ⊥) → x.parent a ≡ c → x.parent b ≡ c → On x a n → On x b n → a ≡ b
  one_child {a} {b} {c} {n} na nb p q on other = elim (one_path on other) [
    | inl e ↦ lone na p q e
    | inr e ↦ sym (lone nb q p e)
  ]

  -- what stands in a child stands in the class, and isn't the class
  pub in_class : {a c n : ℕ} → (a ≡ 0 → ⊥) → x.parent a ≡ c → On x a n → On x c n
  in_class {a} {c} {n} nz p same = up nz (subst (λ (j : ℕ). On x c j) (sym p) same)
  in_class {a} {c} {n} nz p (up inner on) = up inner (in_class nz p on)

  pub not_class : {a c n : ℕ} → (a ≡ 0 → ⊥) → x.parent a ≡ c → On x a n → n ≡ c → ⊥
  not_class {a} {c} {n} nz p on e =
      let low = on_le l x plan on in
      let below = plan.below a nz in
      omega arith

-- The children of a node are the nodes that have it as their parent.
use Rattle.std.proofs.Common.{◌≡◌, ℕ, zero, suc, ◌+◌, ◌<◌, List, [], ◌∷◌, ◌++◌, length, get_or, Bool, true, false, ◌==◌, ◌&&◌, not, cond, refl, sym, ap, ◌∙◌, arith, inl, inr}
use Rattle.std.proofs.lemmas.Bool.{cases_eq, cases_lt}
use Rattle.std.proofs.lemmas.List.{length-append, get_or_append_left, get_or_push}
use Rattle.iso_plan.proofs.PathLemmas.{eq_from, eq_same, not-root}
use Rattle.iso_plan.specs.Children.{IsChild, IsListed}
use Rattle.iso_plan.specs.Paths.{children, children_below, is_root, parent}
use Rattle.iso_plan.specs.Tree.{Row}

further : (tree : List Row) (m l c : ℕ) → IsChild tree m l c → IsChild tree m (suc l) c
further tree m l c h = let w = h.within in record { positive = h.positive; within = omega arith; parent_is = h.parent_is }

both_true : (a b : Bool) → (a && b) ≡ true → (a ≡ true) × (b ≡ true)
both_true true b h = (refl, h)
both_true false b h = absurd (cc)

live_from : (n : ℕ) → not (is_root n) ≡ true → 0 < n
live_from zero h = absurd (cc)
live_from (suc n) h = omega arith

at_push : (tree : List Row) (m l i : ℕ) → not (is_root l) && parent tree l == m ≡ true → ((j : ℕ) → j < length (children_below tree m l) → IsChild tree m l (get_or (children_below tree m l) j 0))
    → i < length (children_below tree m l ++ l ∷ []) → IsChild tree m (suc l) (get_or (children_below tree m l ++ l ∷ []) i 0)
at_push tree m l i here ih h =
    let before = children_below tree m l in
    let count : length (before ++ l ∷ []) ≡ length before + 1 = length-append before (l ∷ []) in
    let parts = both_true (not (is_root l)) (parent tree l == m) here in
    elim (cases_lt i (length before)) [
      | inl less ↦ rw (get_or_append_left before (l ∷ []) 0 i less) (further tree m l (get_or before i 0) (ih i less))
      | inr more ↦
          let last : length before ≡ i = omega arith in
          rw (get_or_push before l 0 i last) (record { positive = live_from l parts.0; within = omega arith; parent_is = eq_from (parent tree l) m parts.1 })
    ]

child_by : (tree : List Row) (m l i : ℕ) → (t : Bool) → not (is_root l) && parent tree l == m ≡ t
    → ((j : ℕ) → j < length (children_below tree m l) → IsChild tree m l (get_or (children_below tree m l) j 0))
    → i < length (cond t (children_below tree m l ++ l ∷ []) (children_below tree m l)) → IsChild tree m (suc l) (get_or (cond t (children_below tree m l ++ l ∷ []) (children_below tree m l)) i 0)
child_by tree m l i true here ih h = at_push tree m l i here ih h
child_by tree m l i false here ih h = further tree m l (get_or (children_below tree m l) i 0) (ih i h)

pub child-below : (tree : List Row) (m l i : ℕ) → i < length (children_below tree m l) → IsChild tree m l (get_or (children_below tree m l) i 0)
child-below tree m zero i h = absurd (omega arith)
child-below tree m (suc l) i h = child_by tree m l i (not (is_root l) && parent tree l == m) refl (child-below tree m l) h

-- each child has its parent
pub child-is : (tree : List Row) (m i : ℕ) → i < length (children tree m) → IsChild tree m (length tree) (get_or (children tree m) i 0)
child-is tree m i h = child-below tree m (length tree) i h

listed_push : (cs : List ℕ) (l n : ℕ) → IsListed cs n → IsListed (cs ++ l ∷ []) n
listed_push cs l n h =
    let count : length (cs ++ l ∷ []) ≡ length cs + 1 = length-append cs (l ∷ []) in
    let w = h.within in
    record { place = h.place; within = omega arith; is = get_or_append_left cs (l ∷ []) 0 h.place h.within ∙ h.is }

listed_more : (cs : List ℕ) (l n : ℕ) (t : Bool) → IsListed cs n → IsListed (cond t (cs ++ l ∷ []) cs) n
listed_more cs l n true h = listed_push cs l n h
listed_more cs l n false h = h

listed_here : (cs : List ℕ) (l n : ℕ) → n ≡ l → IsListed (cs ++ l ∷ []) n
listed_here cs l n same =
    let count : length (cs ++ l ∷ []) ≡ length cs + 1 = length-append cs (l ∷ []) in
    record { place = length cs; within = omega arith; is = get_or_push cs l 0 (length cs) refl ∙ sym same }

listed-below : (tree : List Row) (m l n : ℕ) → IsChild tree m l n → IsListed (children_below tree m l) n
listed-below tree m zero n h = let w = h.within in absurd (omega arith)
listed-below tree m (suc l) n h =
    elim (cases_eq n l) [
      | inl same ↦
          let pos : 0 < l = rw (sym same) h.positive in
          let parent_is : parent tree l ≡ m = ap (parent tree) (sym same) ∙ h.parent_is in
          let passes : (not (is_root l) && parent tree l == m) ≡ true = rw (not-root l pos, parent_is) (eq_same m) in
          rw passes (listed_here (children_below tree m l) l n same)
      | inr other ↦
          let w = h.within in
          listed_more (children_below tree m l) l n (not (is_root l) && parent tree l == m)
          (listed-below tree m l n (record { positive = h.positive; within = omega arith; parent_is = h.parent_is }))
    ]

-- each node but the root is among the children of its parent
pub listed : (tree : List Row) (n : ℕ) → 0 < n → n < length tree → IsListed (children tree (parent tree n)) n
listed tree n pos within = listed-below tree (parent tree n) (length tree) n (record { positive = pos; within = within; parent_is = refl })

-- The blocked tests in a class are those at its children.
use Rattle.std.proofs.Common.{◌≡◌, ◌<◌, ◌≤◌, ℕ, zero, suc, ◌+◌, List, [], ◌∷◌, ◌++◌, length, Some, Bool, true, false, ◌&&◌, ◌||◌, ◌==◌, not, cond, inl, inr, refl, sym, ap, subst, ◌∙◌, arith, true≢false}
use Rattle.std.specs.List.{find, sum_by}
use Rattle.iso_model.specs.declared.outcome.Outcome.{Outcome}
use Rattle.iso_model.specs.declared.outcome.Verdict.{Verdict}
use Rattle.iso_model.specs.declared.outcome.Verdict.TheVariants.{Pass, Fail, Fault, Skipped, Blocked}
use Rattle.iso_plan.proofs.NumberLemmas.{those-agree}
use Rattle.iso_plan.proofs.PathLemmas.{along, eq_from, eq_not, eq_same, not-root, path-root, path-step, under-le}
use Rattle.iso_plan.specs.Locks.{is_that}
use Rattle.iso_plan.specs.Paths.{IsTree, children, children_below, is_on, is_root, is_test, parent, path, row_at}
use Rattle.iso_plan.specs.KeptNodes.{those_below}
use Rattle.iso_plan.specs.Tree.{Row}
use Rattle.iso_failures.specs.BlockedInside.{blocked_at, blocked_within, is_at, is_met, is_within}
use Rattle.iso_failures.specs.Blocking.{blocked_by, is_blocked_by}
use Rattle.iso_failures.specs.Failures.{is_failure}
use Rattle.iso_failures.specs.Nodes.{has_failed, is_test_with, was_blocked}
use Rattle.iso_failures.proofs.Sums.{alone, many-alone, many-both, many-none, many-small, many-sum, numbers, one, sum-zero, those-once, those-same, those-zero}

or_false : (a b : Bool) → a ≡ false → b ≡ false → (a || b) ≡ false
or_false a b e f = rw (e, f) refl

and_false : (a b : Bool) → b ≡ false → (a && b) ≡ false
and_false true b e = e
and_false false b e = refl

right_true : (a b : Bool) → (a && b) ≡ true → b ≡ true
right_true true b h = h
right_true false b h = absurd (true≢false (sym h))

not_true : (b : Bool) → (b ≡ true → ⊥) → b ≡ false
not_true true h = absurd (h refl)
not_true false h = refl

-- the children of a node, as numbers that pass a test
abbrev is_child : List Row → ℕ → ℕ → Bool
is_child tree d n = not (is_root n) && parent tree n == d

children_pass : (tree : List Row) (d n : ℕ) → children_below tree d n ≡ those_below (is_child tree d) n
children_pass tree d zero = refl
children_pass tree d (suc n) = ap (λ (ns : List ℕ). cond (not (is_root n) && parent tree n == d) (ns ++ n ∷ []) ns) (children_pass tree d n)

-- a child of a node, as the test says it
record HasParent (tree : List Row) (d n : ℕ) : Type 0 where
  positive : 0 < n
  up : parent tree n ≡ d

child_is : (tree : List Row) (d n : ℕ) → is_child tree d n ≡ true → HasParent tree d n
child_is tree d zero h = absurd (true≢false (sym h))
child_is tree d (suc n) h = record { positive = omega arith; up = eq_from (parent tree (suc n)) d h }

module _ (tree : List Row) (outcome : ℕ → Outcome) where
  abbrev fails : ℕ → Bool
  fails n = is_failure outcome n

  abbrev blocked : ℕ → Bool
  blocked n = is_test_with tree outcome was_blocked n

  abbrev within : ℕ → ℕ → Bool
  within m n = is_within tree outcome m n

  abbrev at : ℕ → ℕ → Bool
  at m n = is_at tree outcome m n

  -- what is met on a way is on it
  met_by : (m n : ℕ) (ns : List ℕ) (t : Bool) → (is_met outcome m ns ≡ true → is_on ns m ≡ true) → (t || (not (fails n) && is_met outcome m ns)) ≡ true → (t || is_on ns m) ≡ true
  met_by m n ns true ih h = refl
  met_by m n ns false ih h = ih (right_true (not (fails n)) (is_met outcome m ns) h)

  met_on : (m : ℕ) (ns : List ℕ) → is_met outcome m ns ≡ true → is_on ns m ≡ true
  met_on m [] h = h
  met_on m (n ∷ ns) h = met_by m n ns (n == m) (met_on m ns) h

  -- the first failure on a way is met before another
  found_by : (m n : ℕ) (ns : List ℕ) (t : Bool) → (n ≡ m → ⊥) → is_that (find fails ns) m ≡ is_met outcome m ns → is_that (cond t (Some n) (find fails ns)) m ≡ (not t && is_met outcome m ns)
  found_by m n ns true ne ih = eq_not n m ne
  found_by m n ns false ne ih = ih

  found_met : (m : ℕ) (ns : List ℕ) → fails m ≡ true → is_that (find fails ns) m ≡ is_met outcome m ns
  found_met m [] f = refl
  found_met m (n ∷ ns) f =
      let ih = found_met m ns f in
      elim (numbers n m) [
        | inl same ↦ rw (ap fails same ∙ f, ap (λ (k : ℕ). k == m) same ∙ eq_same m) refl
        | inr ne ↦ found_by m n ns (fails n) ne ih ∙ sym (ap (λ (b : Bool). b || (not (fails n) && is_met outcome m ns)) (eq_not n m ne))
      ]

  -- a node that didn't fail is none
  found_fails : (m n : ℕ) (ns : List ℕ) (t : Bool) → fails n ≡ t → fails m ≡ false → is_that (find fails ns) m ≡ false → is_that (cond t (Some n) (find fails ns)) m ≡ false
  found_fails m n ns true e f ih = eq_not n m (λ same. true≢false (sym e ∙ ap fails same ∙ f))
  found_fails m n ns false e f ih = ih

  not_found : (m : ℕ) (ns : List ℕ) → fails m ≡ false → is_that (find fails ns) m ≡ false
  not_found m [] f = refl
  not_found m (n ∷ ns) f = found_fails m n ns (fails n) refl f (not_found m ns f)

  -- a failure blocks the tests in it, without those in a failure in it
  pub blocked-by-failure : (m : ℕ) → fails m ≡ true → blocked_by tree outcome m ≡ blocked_within tree outcome m
  blocked-by-failure m f =
      ap length (those-agree (is_blocked_by tree outcome m) (λ n. blocked n && within m n) (length tree)
      (λ n less. ap (λ (b : Bool). blocked n && b) (found_met m (path tree (parent tree n)) f)))

  -- and another node blocks none
  pub blocked-by-other : (m : ℕ) → fails m ≡ false → blocked_by tree outcome m ≡ 0
  blocked-by-other m f =
      many-none (is_blocked_by tree outcome m) (length tree)
      (λ n less. and_false (blocked n) _ (not_found m (path tree (parent tree n)) f))

  -- no more than there are nodes
  pub blocked-within-few : (m : ℕ) → blocked_within tree outcome m ≤ length tree
  blocked-within-few m = many-small (λ n. blocked n && within m n) (length tree)

  pub blocked-at-few : (m : ℕ) → blocked_at tree outcome m ≤ length tree
  blocked-at-few m = many-small (λ n. blocked n && at m n) (length tree)

  module _ (t : IsTree tree) where
    within_le : (m n : ℕ) → within m n ≡ true → m ≤ parent tree n
    within_le m n h = under-le tree t.below m (parent tree n) (met_on m (path tree (parent tree n)) h)

    within_root : (m n : ℕ) → parent tree n ≡ 0 → within m n ≡ false
    within_root m n e = ap (λ (p : ℕ). is_met outcome m (path tree p)) e ∙ ap (is_met outcome m) (path-root tree)

    within_step : (m n p : ℕ) → parent tree n ≡ p → 0 < p → within m n ≡ (p == m || (not (fails p) && within m p))
    within_step m n p e pos = ap (λ (q : ℕ). is_met outcome m (path tree q)) e ∙ ap (is_met outcome m) (path-step tree t.below p pos)

    not_within : (m n : ℕ) → parent tree n < m → within m n ≡ false
    not_within m n less = not_true (within m n) (λ h. let le = within_le m n h in absurd (omega arith))

    -- a node in another one is at just one child of that
    abbrev Splits : ℕ → ℕ → Type 0
    Splits d n = one (within d n) ≡ sum_by (λ c. one (at c n)) (those_below (is_child tree d) (length tree))

    splits_top : (d n : ℕ) → 0 < d → parent tree n ≡ 0 → Splits d n
    splits_top d n pos e =
        ap one (within_root d n e)
        ∙ sym (those-zero (is_child tree d) (λ c. one (at c n)) (length tree) (λ c less child.
        ap one (or_false (n == c) (not (fails c) && within c n)
        (eq_not n c (λ same. let up : 0 ≡ d = sym e ∙ ap (parent tree) same ∙ (child_is tree d c child).up in absurd (omega arith)))
        (and_false (not (fails c)) (within c n) (within_root c n e)))))

    only : (a b w : Bool) → w ≡ false → (a || (b && w)) ≡ a
    only true b w e = refl
    only false b w e = and_false b w e

    splits_here : (d n : ℕ) → 0 < d → 0 < n → n < length tree → parent tree n ≡ d → Splits d n
    splits_here d n pos pos_n less e =
        ap one (within_step d n d e pos ∙ ap (λ (b : Bool). b || (not (fails d) && within d d)) (eq_same d))
        ∙ sym (those-same (is_child tree d) (λ c. one (at c n)) (λ c. one (n == c)) (length tree) (λ c less_c child.
        let is = child_is tree d c child in
        let up = is.up in
        let below = t.below c is.positive in
        ap one (only (n == c) (not (fails c)) (within c n) (not_within c n (omega arith))))
        ∙ those-once (is_child tree d) n (length tree) (rw (not-root n pos_n, e) (eq_same d)) less)

    moved : (same over above w : Bool) → (same ≡ true → over ≡ above) → (not over && (same || (not above && w))) ≡ (not above && (same || (not over && w)))
    moved true true above w h = ap (λ (b : Bool). not b && true) (h refl)
    moved true false above w h = ap (λ (b : Bool). not b && true) (h refl)
    moved false true true w h = refl
    moved false true false w h = refl
    moved false false true w h = refl
    moved false false false w h = refl

    at_up : (c n p : ℕ) → (n ≡ c → ⊥) → parent tree n ≡ p → 0 < p → at c n ≡ (not (fails p) && at c p)
    at_up c n p ne e pos =
        ap (λ (b : Bool). b || (not (fails c) && within c n)) (eq_not n c ne)
        ∙ ap (λ (b : Bool). not (fails c) && b) (within_step c n p e pos)
        ∙ moved (p == c) (fails c) (fails p) (within c p) (λ same. ap fails (sym (eq_from p c same)))

    splits_and : (d p : ℕ) (b : Bool) → Splits d p → one (b && within d p) ≡ sum_by (λ c. one (b && at c p)) (those_below (is_child tree d) (length tree))
    splits_and d p true h = h
    splits_and d p false h = sym (sum-zero (those_below (is_child tree d) (length tree)))

    splits_up : (d n p : ℕ) → parent tree n ≡ p → 0 < p → (p ≡ d → ⊥) → Splits d p → Splits d n
    splits_up d n p e pos ne ih =
        ap one (within_step d n p e pos ∙ ap (λ (b : Bool). b || (not (fails p) && within d p)) (eq_not p d ne))
        ∙ splits_and d p (not (fails p)) ih
        ∙ sym (those-same (is_child tree d) (λ c. one (at c n)) (λ c. one (not (fails p) && at c p)) (length tree) (λ c less child.
        ap one (at_up c n p (λ same. ne (sym e ∙ ap (parent tree) same ∙ (child_is tree d c child).up)) e pos)))

    splits : (d : ℕ) → 0 < d → (n : ℕ) → n < length tree → Splits d n
    splits d pos =
        along tree t.below (λ n. n < length tree → Splits d n)
        (λ less. splits_top d 0 pos (ap (λ (r : Row). r.parent) t.root_is))
        (λ n pos_n ih less. let below = t.below n pos_n in elim (numbers (parent tree n) 0) [
          | inl top ↦ splits_top d n pos top
          | inr inner ↦ elim (numbers (parent tree n) d) [
            | inl here ↦ splits_here d n pos pos_n less here
            | inr other ↦ splits_up d n (parent tree n) refl (omega arith) other (ih (omega arith))
          ]
        ])

    -- the blocked tests in a node are those at its children
    pub blocked-within : (d : ℕ) → 0 < d → blocked_within tree outcome d ≡ sum_by (blocked_at tree outcome) (children tree d)
    blocked-within d pos =
        many-sum (λ n. blocked n && within d n) (λ c n. blocked n && at c n) (those_below (is_child tree d) (length tree)) (length tree)
        (λ n less. splits_and d n (blocked n) (splits d pos n less))
        ∙ ap (sum_by (blocked_at tree outcome)) (sym (children_pass tree d (length tree)))

    unblocked : (v : Verdict) → has_failed v ≡ true → was_blocked v ≡ false
    unblocked Pass h = refl
    unblocked (Fail note) h = refl
    unblocked (Fault kind note) h = refl
    unblocked (Skipped note) h = refl
    unblocked (Blocked note) h = absurd (true≢false (sym h))

    failed_unblocked : (m : ℕ) → fails m ≡ true → blocked m ≡ false
    failed_unblocked m f =
        and_false (is_test (row_at tree m).kind) (was_blocked (outcome m).verdict)
        (unblocked (outcome m).verdict (right_true (not (is_root m)) (has_failed (outcome m).verdict) f))

    -- at a failure there are none
    pub blocked-failed : (m : ℕ) → fails m ≡ true → blocked_at tree outcome m ≡ 0
    blocked-failed m f = many-none (λ n. blocked n && at m n) (length tree) (λ n less. elim (numbers n m) [
      | inl same ↦ ap (λ (b : Bool). b && at m n) (ap blocked same ∙ failed_unblocked m f)
      | inr ne ↦ and_false (blocked n) (at m n) (or_false (n == m) _ (eq_not n m ne) (ap (λ (b : Bool). not b && within m n) f))
    ])

    apart_test : (b same w : Bool) → (same ≡ true → w ≡ false) → one (b && (same || w)) ≡ one (b && same) + one (b && w)
    apart_test true true w h = let none = ap one (h refl) in omega arith
    apart_test true false w h = omega arith
    apart_test false same w h = omega arith

    -- at another node there are those in it, and the node itself where it is one
    pub blocked-at : (m : ℕ) → 0 < m → m < length tree → fails m ≡ false → blocked_at tree outcome m ≡ one (blocked m) + blocked_within tree outcome m
    blocked-at m pos less f =
        many-both (λ n. blocked n && at m n) (alone blocked m) (λ n. blocked n && within m n) (length tree)
        (λ n h. ap (λ (b : Bool). one (blocked n && (n == m || (not b && within m n)))) f
        ∙ apart_test (blocked n) (n == m) (within m n)
        (λ same. let is = eq_from n m same in let below = t.below n (subst (λ (j : ℕ). 0 < j) (sym is) pos) in not_within m n (omega arith)))
        ∙ ap (λ (k : ℕ). k + blocked_within tree outcome m) (many-alone blocked m (length tree) less)

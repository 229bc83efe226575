-- The nodes at or under a node are the node, and those at or under its children.
use Rattle.std.proofs.Common.{◌≡◌, ◌<◌, ◌≤◌, ℕ, zero, suc, ◌+◌, List, [], ◌∷◌, ◌++◌, length, get_or, Bool, true, false, ◌&&◌, ◌||◌, ◌==◌, not, cond, ◌⊎◌, inl, inr, refl, sym, ap, subst, ◌∙◌, arith, true≢false}
use Rattle.std.specs.List.{All, AllByRecursion, filter, list_all, range_with_len}
use Rattle.std.proofs.lemmas.List.Elements.{All-nil, All-cons, All-append, recursion_from_All}
use Rattle.iso_plan.proofs.ChildLemmas.{listed}
use Rattle.iso_plan.proofs.PathLemmas.{along, eq_from, path-root, under-le, under-self, under-step}
use Rattle.iso_plan.specs.Children.{IsListed}
use Rattle.iso_plan.specs.Paths.{IsTree, children, children_below, is_root, is_test, is_under, parent, row_at}
use Rattle.iso_plan.specs.Tree.{Row}
use Rattle.iso_tap.specs.Reports.{within}

push_if : (P : ℕ → Type 0) (n : ℕ) (xs : List ℕ) (t : Bool) → (t ≡ true → P n) → All P xs → All P (cond t (xs ++ n ∷ []) xs)
push_if P n xs true h all = All-append P xs (n ∷ []) all (All-cons P n [] (h refl) (All-nil P))
push_if P n xs false h all = all

child_is : (tree : List Row) (m n : ℕ) → (not (is_root n) && parent tree n == m) ≡ true → (0 < n) × (parent tree n ≡ m)
child_is tree m zero h = absurd (true≢false (sym h))
child_is tree m (suc n) h = (omega arith, eq_from (parent tree (suc n)) m h)

-- what holds of each node that stands directly in a node holds of its children
children-have : (P : ℕ → Type 0) (tree : List Row) (m k : ℕ) → ((n : ℕ) → 0 < n → n < k → parent tree n ≡ m → P n) → All P (children_below tree m k)
children-have P tree m zero h = All-nil P
children-have P tree m (suc n) h =
    push_if P n (children_below tree m n) (not (is_root n) && parent tree n == m)
    (λ e. let c = child_is tree m n e in h n c.0 (omega arith) c.1)
    (children-have P tree m n (λ c pos less is. h c pos (omega arith) is))

-- a child comes after the node that it stands in, and is one of the nodes
abbrev pub IsChild : List Row → ℕ → ℕ → Type 0
IsChild tree m n = (0 < n) × (m < n) × (n < length tree)

pub children-are : (tree : List Row) (m : ℕ) → IsTree tree → All (IsChild tree m) (children tree m)
children-are tree m t =
    children-have (IsChild tree m) tree m (length tree) (λ n pos less is. let e = t.below n pos in (pos, omega arith, less))

both : (a b : Bool) → a ≡ true → b ≡ true → (a && b) ≡ true
both true b e f = f
both false b e f = absurd (true≢false (sym e))

both_true : (a b : Bool) → (a && b) ≡ true → (a ≡ true) × (b ≡ true)
both_true true b h = (refl, h)
both_true false b h = absurd (true≢false (sym h))

either_true : (a b : Bool) → (a || b) ≡ true → (a ≡ true) ⊎ (b ≡ true)
either_true true b h = inl refl
either_true false b h = inr h

right_true : (a b : Bool) → b ≡ true → (a || b) ≡ true
right_true true b h = refl
right_true false b h = h

same_truth : (a b : Bool) → (a ≡ true → b ≡ true) → (b ≡ true → a ≡ true) → a ≡ b
same_truth true b f g = sym (f refl)
same_truth false true f g = g refl
same_truth false false f g = refl

numbers : (a m : ℕ) → (a ≡ m) ⊎ (a ≡ m → ⊥)
numbers a m = grind arith

further : (a m : ℕ) → a ≤ m → (a ≡ m → ⊥) → a + 1 ≤ m
further a m low ne = grind arith

module _ (p q : ℕ → Bool) where
  -- of the numbers that pass q, each passes p
  all_from : (n a : ℕ) → ((m : ℕ) → a ≤ m → m < a + n → q m ≡ true → p m ≡ true) → list_all p (filter q (range_with_len a n)) ≡ true
  all_from zero a h = refl
  all_from (suc n) a h = by (q a) (λ e. h a (omega arith) (omega arith) e) (all_from n (a + 1) (λ m low high e. h m (omega arith) (omega arith) e))
    where
      by : (b : Bool) → (b ≡ true → p a ≡ true) → list_all p (filter q (range_with_len (a + 1) n)) ≡ true
          → list_all p (cond b (a ∷ filter q (range_with_len (a + 1) n)) (filter q (range_with_len (a + 1) n))) ≡ true
      by true here rest = both (p a) _ (here refl) rest
      by false here rest = rest

  all_to : (n a : ℕ) → list_all p (filter q (range_with_len a n)) ≡ true → (m : ℕ) → a ≤ m → m < a + n → q m ≡ true → p m ≡ true
  all_to zero a h m low high e = absurd (omega arith)
  all_to (suc n) a h m low high e = by (q a) refl h (λ rest less. all_to n (a + 1) rest m less (omega arith) e)
    where
      by : (b : Bool) → q a ≡ b → list_all p (cond b (a ∷ filter q (range_with_len (a + 1) n)) (filter q (range_with_len (a + 1) n))) ≡ true
          → (list_all p (filter q (range_with_len (a + 1) n)) ≡ true → a + 1 ≤ m → p m ≡ true) → p m ≡ true
      by true t h rest =
          let parts = both_true (p a) _ h in
          elim (numbers a m) [ inl here ↦ ap p (sym here) ∙ parts.0 | inr ne ↦ rest parts.1 (further a m low ne) ]
      by false f h rest =
          elim (numbers a m) [ inl here ↦ absurd (true≢false (sym e ∙ ap q (sym here) ∙ f)) | inr ne ↦ rest h (further a m low ne) ]

all_at : (p : ℕ → Bool) (ns : List ℕ) (i : ℕ) → list_all p ns ≡ true → i < length ns → p (get_or ns i 0) ≡ true
all_at p [] i h less = absurd (omega arith)
all_at p (n ∷ ns) zero h less = (both_true (p n) _ h).0
all_at p (n ∷ ns) (suc i) h less = all_at p ns i (both_true (p n) _ h).1 (omega arith)

all_listed : (p : ℕ → Bool) (ns : List ℕ) (n : ℕ) → list_all p ns ≡ true → IsListed ns n → p n ≡ true
all_listed p ns n h is = ap p (sym is.is) ∙ all_at p ns is.place h is.within

all_by : (P : ℕ → Type 0) (p : ℕ → Bool) → ((n : ℕ) → P n → p n ≡ true) → (ns : List ℕ) → AllByRecursion P ns → list_all p ns ≡ true
all_by P p f [] h = refl
all_by P p f (n ∷ ns) h = both (p n) _ (f n h.0) (all_by P p f ns h.1)

module _ (tree : List Row) (t : IsTree tree) where
  -- a node but the root, that stands directly in another
  abbrev IsChildOf : ℕ → ℕ → Type 0
  IsChildOf n c = (0 < c) × (parent tree c ≡ n)

  -- a child of a node, at or under which another stands
  record Between (n m : ℕ) : Type 0 where
    child : ℕ
    positive : 0 < child
    parent_is : parent tree child ≡ n
    under : is_under tree child m ≡ true

  -- what stands in a child of a node stands in the node
  under_parent : (n c : ℕ) → 0 < n → 0 < c → parent tree c ≡ n → (m : ℕ) → is_under tree c m ≡ true → is_under tree n m ≡ true
  under_parent n c pos_n pos_c is = along tree t.below (λ m. is_under tree c m ≡ true → is_under tree n m ≡ true)
      (λ h. absurd (true≢false (sym h ∙ rw (path-root tree) refl)))
      (λ m pos ih h. under-step tree t.below n m pos ∙ right_true (m == n) (is_under tree n (parent tree m))
      (elim (either_true (m == c) (is_under tree c (parent tree m)) (sym (under-step tree t.below c m pos) ∙ h)) [
        | inl same ↦ ap (is_under tree n) (ap (parent tree) (eq_from m c same) ∙ is) ∙ under-self tree t.below n pos_n
        | inr up ↦ ih up
      ]))

  -- what stands in a node is the node, or stands in one of its children
  between : (n : ℕ) → (m : ℕ) → is_under tree n m ≡ true → (m ≡ n) ⊎ Between n m
  between n = along tree t.below (λ m. is_under tree n m ≡ true → (m ≡ n) ⊎ Between n m)
      (λ h. absurd (true≢false (sym h ∙ rw (path-root tree) refl)))
      (λ m pos ih h. elim (either_true (m == n) (is_under tree n (parent tree m)) (sym (under-step tree t.below n m pos) ∙ h)) [
        | inl same ↦ inl (eq_from m n same)
        | inr up ↦ inr (elim (ih up) [
          | inl here ↦ record { child = m; positive = pos; parent_is = here; under = under-self tree t.below m pos }
          | inr b ↦ record {
            child = b.child;
            positive = b.positive;
            parent_is = b.parent_is;
            under = under-step tree t.below b.child m pos ∙ right_true (m == b.child) _ b.under;
          }
        ])
      ])

  -- what holds at and under a node holds of it, and at and under its children
  pub within-down : (p : ℕ → Bool) (n : ℕ) → 0 < n → n < length tree
      → list_all p (within tree n) ≡ (p n && list_all (λ c. list_all p (within tree c)) (children tree n))
  within-down p n pos inside = same_truth _ _
      (λ h. both (p n) _ (all_to p (is_under tree n) (length tree) 0 h n (omega arith) (omega arith) (under-self tree t.below n pos))
      (all_by (IsChildOf n) (λ c. list_all p (within tree c))
      (λ c is. all_from p (is_under tree c) (length tree) 0
      (λ m low high u. all_to p (is_under tree n) (length tree) 0 h m low high (under_parent n c pos is.0 is.1 m u)))
      (children tree n) (recursion_from_All (IsChildOf n) (children tree n) (children-have (IsChildOf n) tree n (length tree) (λ c pos_c less is. (pos_c, is))))))
      (λ h.
      let parts = both_true (p n) _ h in
      all_from p (is_under tree n) (length tree) 0 (λ m low high u. elim (between n m u) [
        | inl here ↦ ap p here ∙ parts.0
        | inr b ↦
            let le = under-le tree t.below b.child m b.under in
            let child = all_listed (λ c. list_all p (within tree c)) (children tree n) b.child parts.1
            (subst (λ (j : ℕ). IsListed (children tree j) b.child) b.parent_is (listed tree b.child b.positive (omega arith))) in
            all_to p (is_under tree b.child) (length tree) 0 child m low high b.under
      ]))

-- a test has no children
pub all-of-test : (tree : List Row) → IsTree tree → (p : ℕ → Bool) (n : ℕ) → is_test (row_at tree n).kind ≡ true → list_all p (children tree n) ≡ true
all-of-test tree t p n test =
    let nothing = λ (m : ℕ). ⊥ in
    let none = children-have nothing tree n (length tree) (λ m pos less is. true≢false (sym (ap (λ (k : ℕ). is_test (row_at tree k).kind) is ∙ test) ∙ t.inner m pos)) in
    all_by nothing p (λ m no. absurd no) (children tree n) (recursion_from_All nothing (children tree n) none)

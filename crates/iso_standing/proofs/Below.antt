-- Tests of numbers below one, and the children of a node.
use Rattle.std.proofs.Common.{◌≡◌, ℕ, zero, suc, ◌+◌, ◌<◌, ◌≤◌, List, [], ◌∷◌, ◌++◌, length, Option, Some, None, Bool, true, false, ◌&&◌, ◌||◌, not, cond, eqb, leb, is_some, drop, ap, ap₂, sym, ◌∙◌, arith, inl, inr, refl}
use Rattle.std.specs.List.{All, list_any}
use Rattle.std.specs.Option.{option_or}
use Rattle.std.proofs.lemmas.Bool.{cases_eq, le-leb, lt-leb}
use Rattle.std.proofs.lemmas.List.Elements.{All-append, All-cons, All-nil, All-weaker}
use Rattle.std.proofs.lemmas.List.{drop_all}
use Rattle.std.proofs.lemmas.List.Folds.{list_any-append}
use Rattle.iso_plan.proofs.ConflictLemmas.{lowest-here, lowest-pass, lowest-stays}
use Rattle.iso_plan.specs.Conflicts.{lowest}
use Rattle.iso_isolation.specs.Refusals.{any_below, is_root, lowest_below}
use Rattle.iso_plan.proofs.PathLemmas.{eq_not}
use Rattle.iso_plan.specs.Paths as Paths
use Rattle.iso_plan.specs.Paths.{children, children_below, parent}
use Rattle.iso_plan.specs.Tree.{Row}

-- tests that answer alike below a number find alike
pub lowest-alike : (n : ℕ) (p q : ℕ → Bool) → ((m : ℕ) → m < n → p m ≡ q m) → lowest_below n p ≡ lowest_below n q
lowest-alike zero p q e = refl
lowest-alike (suc n) p q e = ap₂ (λ (o : Option ℕ) (b : Bool). option_or o (cond b (Some n) None)) (lowest-alike n p q (λ m h. e m (omega arith))) (e n (omega arith))

pub any-alike : (n : ℕ) (p q : ℕ → Bool) → ((m : ℕ) → m < n → p m ≡ q m) → any_below n p ≡ any_below n q
any-alike n p q e = ap (λ (o : Option ℕ). is_some o) (lowest-alike n p q e)

one-more : (o : Option ℕ) (n : ℕ) (b : Bool) → is_some (option_or o (cond b (Some n) None)) ≡ (is_some o || b)
one-more None n true = refl
one-more None n false = refl
one-more (Some m) n b = refl

pub any-step : (n : ℕ) (p : ℕ → Bool) → any_below (suc n) p ≡ (any_below n p || p n)
any-step n p = one-more (lowest_below n p) n (p n)

roots : (n : ℕ) → Paths.is_root n ≡ is_root n
roots zero = refl
roots (suc n) = sym (eq_not (suc n) 0 (λ e. omega (arith, e)))

or-false : (a : Bool) → (a || false) ≡ a
or-false true = refl
or-false false = refl

added : (t : Bool) (p : ℕ → Bool) (n : ℕ) (ns : List ℕ) → list_any p (cond t (ns ++ n ∷ []) ns) ≡ (list_any p ns || (t && p n))
added true p n ns = list_any-append p ns (n ∷ []) ∙ ap (λ (b : Bool). list_any p ns || b) (or-false (p n))
added false p n ns = sym (or-false (list_any p ns))

-- some child of a node passes a test where some number below is a child that does
pub children-any : (tree : List Row) (m : ℕ) (p : ℕ → Bool) (n : ℕ) → list_any p (children_below tree m n) ≡ any_below n (λ i. (not (is_root i) && eqb (parent tree i) m) && p i)
children-any tree m p zero = refl
children-any tree m p (suc n) =
    added (not (Paths.is_root n) && eqb (parent tree n) m) p n (children_below tree m n)
    ∙ ap₂ (λ (a r : Bool). a || ((not r && eqb (parent tree n) m) && p n)) (children-any tree m p n) (roots n)
    ∙ sym (any-step n (λ i. (not (is_root i) && eqb (parent tree i) m) && p i))

-- a child of a node below n is one of the numbers below n, and isn't the root
pub record IsChild (tree : List Row) (m n i : ℕ) : Type 0 where
  pub below : i < n
  pub root : is_root i ≡ false
  pub parent : eqb (parent tree i) m ≡ true

child-more : (tree : List Row) (m n i : ℕ) → IsChild tree m n i → IsChild tree m (suc n) i
child-more tree m n i c = let less = c.below in record { below = omega arith; root = c.root; parent = c.parent }

and-left : (a b : Bool) → (a && b) ≡ true → a ≡ true
and-left true b e = refl
and-left false b e = absurd (cc)

and-right : (a b : Bool) → (a && b) ≡ true → b ≡ true
and-right true b e = e
and-right false b e = absurd (cc)

not-true : (a : Bool) → not a ≡ true → a ≡ false
not-true true e = absurd (cc)
not-true false e = refl

one-child : (tree : List Row) (m n : ℕ) (ns : List ℕ) (t : Bool) → (not (Paths.is_root n) && eqb (parent tree n) m) ≡ t
    → All (IsChild tree m (suc n)) ns → All (IsChild tree m (suc n)) (cond t (ns ++ n ∷ []) ns)
one-child tree m n ns false e all = all
one-child tree m n ns true e all = All-append (IsChild tree m (suc n)) ns (n ∷ []) all
    (All-cons (IsChild tree m (suc n)) n [] (record {
      below = omega arith;
      root = sym (roots n)
          ∙ not-true (Paths.is_root n) (and-left (not (Paths.is_root n)) (eqb (parent tree n) m) e);
      parent = and-right (not (Paths.is_root n)) (eqb (parent tree n) m) e;
    })
    (All-nil (IsChild tree m (suc n))))

pub children-known : (tree : List Row) (m n : ℕ) → All (IsChild tree m n) (children_below tree m n)
children-known tree m zero = All-nil (IsChild tree m zero)
children-known tree m (suc n) = one-child tree m n (children_below tree m n) (not (Paths.is_root n) && eqb (parent tree n) m) refl
    (All-weaker (IsChild tree m n) (IsChild tree m (suc n)) (child-more tree m n) (children_below tree m n) (children-known tree m n))

-- numbers from n on that pass no test change nothing
pub any-cut : (n k : ℕ) (p : ℕ → Bool) → any_below (n + k) (λ i. leb (suc i) n && p i) ≡ any_below n p
any-cut n zero p =
    let e : n + 0 ≡ n = omega arith in
    ap (λ j. any_below j (λ i. leb (suc i) n && p i)) e ∙ any-alike n (λ i. leb (suc i) n && p i) p (λ m h. ap (λ (b : Bool). b && p m) (le-leb (suc m) n (omega arith)))
any-cut n (suc k) p =
    let e : n + suc k ≡ suc (n + k) = omega arith in
    ap (λ j. any_below j (λ i. leb (suc i) n && p i)) e ∙ any-step (n + k) (λ i. leb (suc i) n && p i)
    ∙ ap₂ (λ (a b : Bool). a || (b && p (n + k))) (any-cut n k p) (lt-leb (suc (n + k)) n (omega arith)) ∙ or-false (any_below n p)

-- a loop over a list that has come to its end
pub at-end : (p : ℕ → Bool) (xs : List ℕ) (i : ℕ) → list_any p (drop i xs) ≡ list_any p xs → length xs ≤ i → list_any p xs ≡ false
at-end p xs i e h = sym e ∙ ap (list_any p) (drop_all i xs h)

-- the lowest number, as vaults look for it
pub lowest-as : (n : ℕ) (p : ℕ → Bool) → lowest_below n p ≡ lowest p n
lowest-as zero p = refl
lowest-as (suc n) p = ap (λ (o : Option ℕ). option_or o (cond (p n) (Some n) None)) (lowest-as n p)

-- the first number that passes is the lowest of all
pub lowest-found : (n m : ℕ) (p : ℕ → Bool) → lowest_below m p ≡ None → p m ≡ true → m < n → lowest_below n p ≡ Some m
lowest-found n m p none here h = lowest-as n p ∙ lowest-stays p (m + 1) n m (lowest-here p m (sym (lowest-as m p) ∙ none) here) (omega arith)

pub lowest-passed : (m : ℕ) (p : ℕ → Bool) → lowest_below m p ≡ None → p m ≡ false → lowest_below (m + 1) p ≡ None
lowest-passed m p none here = lowest-as (m + 1) p ∙ lowest-pass p m (sym (lowest-as m p) ∙ none) here

or-right : (a b : Bool) → b ≡ true → (a || b) ≡ true
or-right true b e = refl
or-right false b e = e

pub any-none : (n : ℕ) (p : ℕ → Bool) → ((m : ℕ) → m < n → p m ≡ false) → any_below n p ≡ false
any-none zero p h = refl
any-none (suc n) p h = any-step n p ∙ ap₂ (λ (a b : Bool). a || b) (any-none n p (λ m l. h m (omega arith))) (h n (omega arith))

pub any-at : (n m : ℕ) (p : ℕ → Bool) → m < n → p m ≡ true → any_below n p ≡ true
any-at zero m p l e = absurd (omega arith)
any-at (suc n) m p l e = any-step n p ∙ elim (cases_eq m n) [
  | inl same ↦ or-right (any_below n p) (p n) (ap p (sym same) ∙ e)
  | inr other ↦ ap (λ (b : Bool). b || p n) (any-at n m p (omega arith) e)
]

pub root-not : (m : ℕ) → 0 < m → is_root m ≡ false
root-not m h = eq_not m 0 (λ e. omega (arith, e))

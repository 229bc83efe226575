-- Laws of top-level classes, and of those that hold an isolated class.
use Rattle.std.proofs.Common.{◌≡◌, ℕ, zero, suc, ◌<◌, ◌≤◌, List, [], ◌∷◌, Option, Some, None, Bool, true, false, ◌||◌, ◌&&◌, refl, sym, ap, ap₂, ◌∙◌, arith}
use Rattle.std.specs.Option.{option_or}
use Rattle.iso_plan.proofs.PathLemmas.{IsBelow, along, path-root, path-step, under-outermost, under-le, outermost-own}
use Rattle.iso_plan.proofs.LockLemmas.{that-is, that-self}
use Rattle.iso_plan.proofs.SoFar.{isolates_below}
use Rattle.iso_plan.specs.Locks.{is_that, isolates}
use Rattle.iso_plan.specs.Paths.{is_root, is_top, is_under, outermost, parent, path}
use Rattle.iso_plan.specs.Tree.{Row}

-- the top-level class that a node stands in
abbrev pub top : List Row → ℕ → Option ℕ
top tree n = outermost (λ m. true) (path tree n)

root-is : (n : ℕ) → is_root n ≡ true → n ≡ 0
root-is zero h = refl
root-is (suc n) h = absurd (cc)

pub own-path : (tree : List Row) → IsBelow tree → (m : ℕ) → is_top tree m ≡ true → path tree m ≡ m ∷ []
own-path tree b zero h = absurd (cc)
own-path tree b (suc m) h =
    let up : parent tree (suc m) ≡ 0 = root-is (parent tree (suc m)) h in
    path-step tree b (suc m) (omega arith) ∙ ap (λ p. suc m ∷ path tree p) up ∙ ap (λ (ns : List ℕ). suc m ∷ ns) (path-root tree)

-- a top-level class stands in itself
pub top-own : (tree : List Row) → IsBelow tree → (m : ℕ) → is_top tree m ≡ true → top tree m ≡ Some m
top-own tree b m h = ap (outermost (λ n. true)) (own-path tree b m h)

or_some : (o : Option ℕ) (n : ℕ) → option_or o (Some n) ≡ None → ⊥
or_some None n h = let no : Some n ≡ None = h in absurd (cc)
or_some (Some j) n h = let no : Some j ≡ None = h in absurd (cc)

pub no-top : (tree : List Row) → IsBelow tree → (p : ℕ) → top tree p ≡ None → p ≡ 0
no-top tree b zero h = refl
no-top tree b (suc p) h =
    absurd (or_some (top tree (parent tree (suc p))) (suc p) (sym (ap (outermost (λ n. true)) (path-step tree b (suc p) (omega arith))) ∙ h))

under_root : (tree : List Row) (n : ℕ) → 0 < n → parent tree n ≡ 0 → is_top tree n ≡ true
under_root tree zero h e = absurd (omega arith)
under_root tree (suc n) h e = ap is_root e

top_by : (tree : List Row) → IsBelow tree → (n t : ℕ) → 0 < n → (o : Option ℕ) → o ≡ top tree (parent tree n)
    → (o ≡ Some t → is_top tree t ≡ true) → option_or o (Some n) ≡ Some t → is_top tree t ≡ true
top_by tree b n t pos (Some j) e ih h = ih h
top_by tree b n t pos None e ih h =
    let same : n ≡ t = let whole : Some n ≡ Some t = h in cc in
    ap (is_top tree) (sym same) ∙ under_root tree n pos (no-top tree b (parent tree n) (sym e))

-- the outermost node of a path is a top-level class
pub top-is : (tree : List Row) → IsBelow tree → (n t : ℕ) → top tree n ≡ Some t → is_top tree t ≡ true
top-is tree b n t =
    along tree b (λ m. top tree m ≡ Some t → is_top tree t ≡ true)
    (λ h. let none : None ≡ Some t = rw (path-root tree) at h in absurd (cc))
    (λ m pos ih h. top_by tree b m t pos (top tree (parent tree m)) refl ih (sym (ap (outermost (λ j. true)) (path-step tree b m pos)) ∙ h))
    n

pub top-le : (tree : List Row) → IsBelow tree → (n t : ℕ) → top tree n ≡ Some t → t ≤ n
top-le tree b n t e =
    under-le tree b t n (under-outermost tree b (λ m. true) t (outermost-own tree b (λ m. true) t n e) n ∙ that-self (top tree n) t e)

-- a node stands in a top-level class where that is its own
pub under-top : (tree : List Row) → IsBelow tree → (m n : ℕ) → is_top tree m ≡ true → is_under tree m n ≡ is_that (top tree n) m
under-top tree b m n h = under-outermost tree b (λ j. true) m (top-own tree b m h) n

not_that : (tree : List Row) → IsBelow tree → (m n : ℕ) → is_top tree m ≡ false → (t : Bool) → is_that (top tree n) m ≡ t → t ≡ false
not_that tree b m n h true e =
    let is : is_top tree m ≡ true = top-is tree b n m (that-is (top tree n) m e) in
    absurd (cc)
not_that tree b m n h false e = refl

next_by : (tree : List Row) → IsBelow tree → (m n : ℕ) → (t : Bool) → is_top tree m ≡ t
    → ((is_that (top tree n) m && isolates tree n) || (is_top tree m && isolates_below tree m n)) ≡ (is_top tree m && isolates_below tree m (suc n))
next_by tree b m n true h =
    let i = isolates tree n in
    let x = isolates_below tree m n in
    ap₂ (λ (u t : Bool). (u && i) || (t && x)) (sym (under-top tree b m n h)) h ∙ sym (ap (λ (t : Bool). t && ((is_under tree m n && i) || x)) h)
next_by tree b m n false h =
    let i = isolates tree n in
    let x = isolates_below tree m n in
    ap₂ (λ (u t : Bool). (u && i) || (t && x)) (not_that tree b m n h (is_that (top tree n) m) refl) h ∙ sym (ap (λ (t : Bool). t && ((is_under tree m n && i) || x)) h)

-- a node that asks for isolation makes its top-level class hold one that does
pub isolates-next : (tree : List Row) → IsBelow tree → (m n : ℕ)
    → ((is_that (top tree n) m && isolates tree n) || (is_top tree m && isolates_below tree m n)) ≡ (is_top tree m && isolates_below tree m (suc n))
isolates-next tree b m n = next_by tree b m n (is_top tree m) refl

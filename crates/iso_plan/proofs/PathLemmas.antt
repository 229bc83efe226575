-- Laws of paths, where each node stands in one with a smaller number.
use Rattle.std.proofs.Common.{◌≡◌, ◌≢◌, ℕ, zero, suc, ◌<◌, ◌≤◌, List, [], ◌∷◌, ◌++◌, Option, Some, None, Bool, true, false, ◌||◌, ◌==◌, cond, refl, sym, ap, ◌∙◌, arith}
use Rattle.std.proofs.lemmas.Bool.Decides.{nat_tests}
use Rattle.std.specs.Option.{option_or}
use Rattle.iso_plan.specs.Paths.{row_at, parent, up, path, is_root, is_under, outermost}
use Rattle.iso_plan.specs.Locks.{is_that}
use Rattle.iso_plan.specs.NodeChains.{chain_classes, class_heads, heads_on}
use Rattle.iso_plan.specs.Tree.{Row}

abbrev pub IsBelow : List Row → Type 0
IsBelow tree = (n : ℕ) → 0 < n → parent tree n < n

up_root : (most : ℕ) (tree : List Row) → up most tree 0 ≡ []
up_root zero tree = refl
up_root (suc most) tree = refl

pub not-root : (n : ℕ) → 0 < n → is_root n ≡ false
not-root zero h = absurd (omega arith)
not-root (suc n) h = refl

up_next : (most : ℕ) (tree : List Row) (n : ℕ) → 0 < n → up (suc most) tree n ≡ n ∷ up most tree (parent tree n)
up_next most tree zero h = absurd (omega arith)
up_next most tree (suc n) h = refl

-- more steps than the number don't lead further
up_enough : (tree : List Row) → IsBelow tree → (f g n : ℕ) → n ≤ f → n ≤ g → up f tree n ≡ up g tree n
up_enough tree b f g zero hf hg = up_root f tree ∙ sym (up_root g tree)
up_enough tree b zero g (suc n) hf hg = absurd (omega arith)
up_enough tree b (suc f) zero (suc n) hf hg = absurd (omega arith)
up_enough tree b (suc f) (suc g) (suc n) hf hg =
    let less : parent tree (suc n) < suc n = b (suc n) (omega arith) in
    ap (λ ns. suc n ∷ ns) (up_enough tree b f g (parent tree (suc n)) (omega arith) (omega arith))

pub path-root : (tree : List Row) → path tree 0 ≡ []
unfolding path
path-root tree = refl

-- a path is the node and the path of the node that it stands in
pub path-step : (tree : List Row) → IsBelow tree → (n : ℕ) → 0 < n → path tree n ≡ n ∷ path tree (parent tree n)
unfolding path
path-step tree b zero h = absurd (omega arith)
path-step tree b (suc n) h =
    let less : parent tree (suc n) < suc n = b (suc n) h in
    ap (λ ns. suc n ∷ ns) (up_enough tree b n (parent tree (suc n)) (parent tree (suc n)) (omega arith) (omega arith))

-- a fact of all nodes, by way of the node that each stands in
by_parents : (tree : List Row) → IsBelow tree → (P : ℕ → Type 0) → P 0 → ((n : ℕ) → 0 < n → P (parent tree n) → P n) → (most n : ℕ) → n ≤ most → P n
by_parents tree b P z s most zero h = z
by_parents tree b P z s zero (suc n) h = absurd (omega arith)
by_parents tree b P z s (suc most) (suc n) h =
    let less : parent tree (suc n) < suc n = b (suc n) (omega arith) in
    s (suc n) (omega arith) (by_parents tree b P z s most (parent tree (suc n)) (omega arith))

pub along : (tree : List Row) → IsBelow tree → (P : ℕ → Type 0) → P 0 → ((n : ℕ) → 0 < n → P (parent tree n) → P n) → (n : ℕ) → P n
along tree b P z s n = by_parents tree b P z s n n (omega arith)

pub eq_from : (m n : ℕ) → (m == n) ≡ true → m ≡ n
eq_from m n e = grind (arith, nat_tests)

pub eq_same : (n : ℕ) → (n == n) ≡ true
eq_same n = grind (arith, nat_tests)

pub eq_not : (m n : ℕ) → m ≢ n → (m == n) ≡ false
eq_not m n h = grind (arith, nat_tests)

-- a node stands in itself
pub under-self : (tree : List Row) → IsBelow tree → (n : ℕ) → 0 < n → is_under tree n n ≡ true
under-self tree b n h = rw (path-step tree b n h, eq_same n) refl

-- what stands in a node stands in itself or below it
pub under-step : (tree : List Row) → IsBelow tree → (m n : ℕ) → 0 < n → is_under tree m n ≡ (n == m || is_under tree m (parent tree n))
under-step tree b m n h = rw (path-step tree b n h) refl

under_le_by : (tree : List Row) → IsBelow tree → (m n : ℕ) → 0 < n → (is_under tree m (parent tree n) ≡ true → m ≤ parent tree n) → (t : Bool) → (n == m) ≡ t → is_under tree m n ≡ true → m ≤ n
under_le_by tree b m n pos ih true e h = let same : n ≡ m = eq_from n m e in omega arith
under_le_by tree b m n pos ih false e h =
    let less : parent tree n < n = b n pos in
    let above : is_under tree m (parent tree n) ≡ true = rw (path-step tree b n pos, e) at h in
    let le : m ≤ parent tree n = ih above in
    omega arith

-- a node on a path has no greater number
pub under-le : (tree : List Row) → IsBelow tree → (m n : ℕ) → is_under tree m n ≡ true → m ≤ n
under-le tree b m =
    along tree b (λ n. is_under tree m n ≡ true → m ≤ n)
    (λ h. let no : false ≡ true = rw (path-root tree) at h in absurd (cc))
    (λ n pos ih h. under_le_by tree b m n pos ih (n == m) refl h)

-- the outermost node that passes is at or above the one asked for
outer_cases : (test : ℕ → Bool) (m n : ℕ) (o : Option ℕ) (above : Bool) → (n == m) ≡ false → above ≡ is_that o m → above ≡ is_that (option_or o (cond (test n) (Some n) None)) m
outer_cases test m n (Some j) above e h = h
outer_cases test m n None above e h = h ∙ elim (test n) as (λ t. false ≡ is_that (cond t (Some n) None) m) [ true ↦ sym e | false ↦ refl ]

under_by : (tree : List Row) → IsBelow tree → (test : ℕ → Bool) (m : ℕ) → outermost test (path tree m) ≡ Some m → (n : ℕ) → 0 < n
    → is_under tree m (parent tree n) ≡ is_that (outermost test (path tree (parent tree n))) m → (t : Bool) → (n == m) ≡ t → is_under tree m n ≡ is_that (outermost test (path tree n)) m
under_by tree b test m own n pos ih true e =
    let same : n ≡ m = eq_from n m e in
    let here : outermost test (path tree n) ≡ Some m = ap (λ j. outermost test (path tree j)) same ∙ own in
    ap (λ j. is_under tree m j) same ∙ under-self tree b m (rw same at pos) ∙ sym (ap (λ o. is_that o m) here ∙ eq_same m)
under_by tree b test m own n pos ih false e =
    let left : is_under tree m n ≡ is_under tree m (parent tree n) = under-step tree b m n pos ∙ ap (λ t. t || is_under tree m (parent tree n)) e in
    let right : outermost test (path tree n) ≡ option_or (outermost test (path tree (parent tree n))) (cond (test n) (Some n) None) = ap (outermost test) (path-step tree b n pos) in
    left ∙ outer_cases test m n (outermost test (path tree (parent tree n))) (is_under tree m (parent tree n)) e ih ∙ sym (ap (λ o. is_that o m) right)

-- what stands in a node that is the outermost of its own path has it as the outermost of its path, and nothing else has
pub under-outermost : (tree : List Row) → IsBelow tree → (test : ℕ → Bool) (m : ℕ) → outermost test (path tree m) ≡ Some m → (n : ℕ) → is_under tree m n ≡ is_that (outermost test (path tree n)) m
under-outermost tree b test m own =
    along tree b (λ n. is_under tree m n ≡ is_that (outermost test (path tree n)) m)
    (rw (path-root tree) refl)
    (λ n pos ih. under_by tree b test m own n pos ih (n == m) refl)

own_by_test : (tree : List Row) (test : ℕ → Bool) (m n : ℕ) (t : Bool) → cond t (Some n) None ≡ Some m → outermost test (path tree n) ≡ Some m → outermost test (path tree m) ≡ Some m
own_by_test tree test m n true e whole = let same : n ≡ m = cc in ap (λ j. outermost test (path tree j)) (sym same) ∙ whole
own_by_test tree test m n false e whole = let no : None ≡ Some m = e in absurd (cc)

own_by_above : (tree : List Row) (test : ℕ → Bool) (m n : ℕ) (o : Option ℕ) → (o ≡ Some m → outermost test (path tree m) ≡ Some m)
    → option_or o (cond (test n) (Some n) None) ≡ Some m → outermost test (path tree n) ≡ Some m → outermost test (path tree m) ≡ Some m
own_by_above tree test m n (Some j) ih e whole = ih e
own_by_above tree test m n None ih e whole = own_by_test tree test m n (test n) e whole

-- the outermost node of a path is the outermost of its own
pub outermost-own : (tree : List Row) → IsBelow tree → (test : ℕ → Bool) (m n : ℕ) → outermost test (path tree n) ≡ Some m → outermost test (path tree m) ≡ Some m
outermost-own tree b test m =
    along tree b (λ n. outermost test (path tree n) ≡ Some m → outermost test (path tree m) ≡ Some m)
    (λ h. let no : None ≡ Some m = rw (path-root tree) at h in absurd (cc))
    (λ n pos ih h. own_by_above tree test m n (outermost test (path tree (parent tree n))) ih (sym (ap (outermost test) (path-step tree b n pos)) ∙ h) h)

-- the chain of a node: its own head on the chain of the node that it stands in
pub chain-step : (tree : List Row) → IsBelow tree → (n : ℕ) → 0 < n → chain_classes tree n ≡ class_heads (row_at tree n).kind ++ chain_classes tree (parent tree n)
chain-step tree b n pos = ap (heads_on tree) (path-step tree b n pos)

-- Tests in nodes, counted one after another.
use Rattle.std.proofs.Common.{◌≡◌, ℕ, zero, suc, ◌+◌, ◌-◌, ◌<◌, ◌≤◌, List, [], ◌∷◌, ◌++◌, Bool, true, false, ◌||◌, ◌&&◌, ◌==◌, not, cond, filter, get_or, set, replicate, length, refl, sym, ap, ap₂, ◌∙◌, arith, add-one}
use Rattle.std.proofs.lemmas.List.{length-append, get_or_default, get_or-set_other, get_or-set_same, length-replicate}
use Rattle.std.proofs.lemmas.List.Elements.{filter-append}
use Rattle.std.proofs.lemmas.List.Sums.{sum_by-append}
use Rattle.std.proofs.lemmas.List.FromFn.{length-range_with_len}
use Rattle.std.specs.List.{count_by, range_with_len, sum_by}
use Rattle.iso_conflicts.proofs.RangeLemmas.{fewer-pass, sum-fits}
use Rattle.iso_conflicts.specs.Chains.{tests_in}
use Rattle.iso_conflicts.specs.Takers.{takers, takes}
use Rattle.iso_model.specs.declared.access.Access.{Access}
use Rattle.iso_plan.proofs.ColumnLemmas.{column-from}
use Rattle.iso_plan.proofs.PathLemmas.{IsBelow, eq_from, eq_same, path-root, under-le, under-step}
use Rattle.iso_plan.proofs.SoFar.{numbers_more}
use Rattle.iso_plan.specs.Paths.{children, children_below, column, is_on, is_root, is_test, is_under, parent, path, row_at}
use Rattle.iso_plan.specs.Tree.{Row}

-- whether a node is a test
abbrev pub tests : List Row → ℕ → Bool
tests tree n = is_test (row_at tree n).kind

-- what a node adds to the tests of another
abbrev pub adds : List Row → ℕ → ℕ → ℕ
adds tree m n = cond (tests tree n) (cond (is_under tree m n) 1 0) 0

-- the tests in m with a number below n
abbrev pub tests_below : List Row → ℕ → ℕ → ℕ
tests_below tree m zero = 0
tests_below tree m (suc n) = tests_below tree m n + adds tree m n

pub not_under_root : (tree : List Row) (m : ℕ) → is_under tree m 0 ≡ false
not_under_root tree m = ap (λ ns. is_on ns m) (path-root tree)

adds_by : (t u : Bool) → cond t (cond u 1 0) 0 ≤ 1
adds_by true true = omega arith
adds_by true false = omega arith
adds_by false u = omega arith

adds-few : (tree : List Row) (m n : ℕ) → adds tree m n ≤ 1
adds-few tree m n = adds_by (tests tree n) (is_under tree m n)

-- what a node adds that is a test or isn't, and stands in the other or doesn't
abbrev pub added : Bool → Bool → ℕ
added t u = cond t (cond u 1 0) 0

root_adds : (t u : Bool) → u ≡ false → added t u ≡ 0
root_adds true u h = ap (added true) h
root_adds false u h = refl

-- there are fewer than nodes, since the root is no test
pub fewer : (tree : List Row) (m n : ℕ) → tests_below tree m (suc n) ≤ n
fewer tree m zero = let e : adds tree m 0 ≡ 0 = root_adds (tests tree 0) (is_under tree m 0) (not_under_root tree m) in omega arith
fewer tree m (suc n) = let h = fewer tree m n in let k = adds-few tree m (suc n) in omega arith

pub fewer-at : (tree : List Row) (m n : ℕ) → 0 < n → tests_below tree m n < n
fewer-at tree m zero h = absurd (omega arith)
fewer-at tree m (suc n) h = let e = fewer tree m n in omega arith

pub at-most : (tree : List Row) (m n : ℕ) → tests_below tree m n ≤ n
at-most tree m zero = omega arith
at-most tree m (suc n) = let h = fewer tree m n in omega arith

abbrev pub zeros : ℕ → List ℕ
zeros count = replicate count 0

zero-at : (count i : ℕ) → get_or (zeros count) i 0 ≡ 0
zero-at zero i = refl
zero-at (suc count) zero = refl
zero-at (suc count) (suc i) = zero-at count i

pub none-yet : (tree : List Row) (m : ℕ) → tests_below tree m 1 ≡ 0
none-yet tree m = let h = fewer tree m 0 in omega arith

one_by : (tree : List Row) (n : ℕ) (u : Bool) → count_by (tests tree) (cond u (n ∷ []) []) ≡ cond (tests tree n) (cond u 1 0) 0
one_by tree n true = elim (tests tree n) as (λ t. 0 + added t true ≡ added t true) [ true ↦ refl | false ↦ refl ]
one_by tree n false = elim (tests tree n) as (λ t. 0 ≡ added t false) [ true ↦ refl | false ↦ refl ]

pub counted : (tree : List Row) (m n : ℕ) → count_by (tests tree) (filter (is_under tree m) (range_with_len 0 n)) ≡ tests_below tree m n
counted tree m zero = refl
counted tree m (suc n) =
    let before = filter (is_under tree m) (range_with_len 0 n) in
    let here = cond (is_under tree m n) (n ∷ []) [] in
    ap (λ ns. count_by (tests tree) (filter (is_under tree m) ns)) (numbers_more n)
    ∙ ap (count_by (tests tree)) (filter-append (is_under tree m) (range_with_len 0 n) (n ∷ []))
    ∙ sum_by-append (λ x. cond (tests tree x) 1 0) before here
    ∙ ap₂ (λ (a b : ℕ). a + b) (counted tree m n) (one_by tree n (is_under tree m n))

-- where all nodes are counted, these are the tests in a node
pub all-counted : (tree : List Row) (m : ℕ) → tests_below tree m (length tree) ≡ tests_in tree m
all-counted tree m = sym (counted tree m (length tree))

-- a node has no more tests in it than there are nodes
pub tests-few : (tree : List Row) (m : ℕ) → tests_in tree m ≤ length tree
tests-few tree m = let h = at-most tree m (length tree) in rw (sym (all-counted tree m)) h

up_by : (t u : Bool) → (t ≡ true → u ≡ false) → (old new : ℕ) → new ≡ cond t (old + 1) old → new + cond u 1 0 ≡ old + cond (t || u) 1 0
up_by true true apart old new h = let wrong : true ≡ false = apart refl in absurd (cc)
up_by true false apart old new h = omega arith
up_by false true apart old new h = omega arith
up_by false false apart old new h = omega arith

above_by : (tree : List Row) → IsBelow tree → (m n : ℕ) → 0 < n → (u : Bool) → is_under tree m (parent tree n) ≡ u → (n == m) ≡ true → u ≡ false
above_by tree b m n pos true e h =
    let le = under-le tree b m (parent tree n) e in
    let same : n ≡ m = eq_from n m h in
    let less : parent tree n < n = b n pos in
    absurd (omega arith)
above_by tree b m n pos false e h = refl

-- one test counted in a node of its path is left to be counted above
pub climb : (tree : List Row) → IsBelow tree → (m n : ℕ) → 0 < n → (old new : ℕ) → new ≡ cond (n == m) (old + 1) old
    → new + cond (is_under tree m (parent tree n)) 1 0 ≡ old + cond (is_under tree m n) 1 0
climb tree b m n pos old new h =
    up_by (n == m) (is_under tree m (parent tree n)) (above_by tree b m n pos (is_under tree m (parent tree n)) refl) old new h
    ∙ ap (λ (x : Bool). old + cond x 1 0) (sym (under-step tree b m n pos))

set_by : (xs : List ℕ) (i m x : ℕ) → i < length xs → (t : Bool) → (i == m) ≡ t → get_or (set xs i x) m 0 ≡ cond t x (get_or xs m 0)
set_by xs i m x h true e =
    let same : i ≡ m = eq_from i m e in
    ap (λ j. get_or (set xs i x) j 0) (sym same) ∙ get_or-set_same xs i x 0 h
set_by xs i m x h false e =
    get_or-set_other xs i m x 0 (λ same. let yes : (i == m) ≡ true = ap (λ j. i == j) same ∙ eq_same i in absurd (cc))

one_more_by : (xs : List ℕ) (i m : ℕ) (t : Bool) → (i == m) ≡ t → cond t (get_or xs i 0 + 1) (get_or xs m 0) ≡ cond t (get_or xs m 0 + 1) (get_or xs m 0)
one_more_by xs i m true e = ap (λ j. get_or xs j 0 + 1) (eq_from i m e)
one_more_by xs i m false e = refl

-- one more at a place
pub one-more : (xs : List ℕ) (i m : ℕ) → i < length xs → get_or (set xs i (get_or xs i 0 + 1)) m 0 ≡ cond (i == m) (get_or xs m 0 + 1) (get_or xs m 0)
one-more xs i m h = set_by xs i m (get_or xs i 0 + 1) h (i == m) refl ∙ one_more_by xs i m (i == m) refl

-- counts of all nodes, where those of a number below n are counted
pub record AreCounted (tree : List Row) (n : ℕ) (counts : List ℕ) : Type 0 where
  pub each : length counts ≡ length tree
  pub so_far : (m : ℕ) → get_or counts m 0 ≡ tests_below tree m n

pub counted-start : (tree : List Row) (counts : List ℕ) → counts ≡ zeros (length tree) → AreCounted tree 1 counts
counted-start tree counts e =
    record {
      each = ap length e ∙ length-replicate (length tree) _;
      so_far = λ m. ap (λ xs. get_or xs m 0) e ∙ zero-at (length tree) m ∙ sym (none-yet tree m);
    }

pub counted-more : (tree : List Row) (n : ℕ) (old new : List ℕ) → AreCounted tree n old → length new ≡ length tree
    → ((m : ℕ) → get_or new m 0 ≡ get_or old m 0 + adds tree m n) → AreCounted tree (n + 1) new
counted-more tree n old new h l each =
    record { each = l; so_far = λ m. rw add-one (each m ∙ ap (λ x. x + adds tree m n) (h.so_far m)) }

pub counted-all : (tree : List Row) (n : ℕ) (counts : List ℕ) → n ≡ length tree → AreCounted tree n counts → counts ≡ column (tests_in tree) (length tree)
counted-all tree n counts e h =
    column-from (tests_in tree) counts (length tree) h.each (λ m d less.
    get_or_default counts m d 0 (rw h.each less) ∙ h.so_far m ∙ ap (tests_below tree m) e ∙ all-counted tree m)

left_by : (u : Bool) (new whole : ℕ) → u ≡ false → new + cond u 1 0 ≡ whole → new ≡ whole
left_by true new whole h e = absurd (cc)
left_by false new whole h e = omega arith

-- at the root nothing is left to be counted
pub at-rest : (tree : List Row) (m n new whole : ℕ) → n ≤ 0 → new + cond (is_under tree m n) 1 0 ≡ whole → new ≡ whole
at-rest tree m n new whole h e =
    let root : n ≡ 0 = omega arith in
    left_by (is_under tree m n) new whole (ap (is_under tree m) root ∙ not_under_root tree m) e

-- the tests of all that take a key are few enough to be counted
pub takers-fit : (tree : List Row) (a : Access) (key : ℕ) → length tree < 4294967296 → sum_by (tests_in tree) (takers tree a key) + length tree < 18446744073709551616
takers-fit tree a key few =
    let numbers = range_with_len 1 (length tree - 1) in
    let fewer : length (takers tree a key) ≤ length numbers = fewer-pass (takes tree a key) numbers in
    let count : length numbers ≡ length tree - 1 = length-range_with_len 1 (length tree - 1) in
    sum-fits (tests_in tree) (length tree) few (tests-few tree) (takers tree a key) (omega arith)

few_by : (tree : List Row) (m l : ℕ) (t : Bool) → length (children_below tree m l) ≤ l → length (cond t (children_below tree m l ++ l ∷ []) (children_below tree m l)) ≤ suc l
few_by tree m l true h = let e = length-append (children_below tree m l) (l ∷ []) in let one : length (l ∷ []) ≡ 1 = refl in omega arith
few_by tree m l false h = omega arith

few_children : (tree : List Row) (m l : ℕ) → length (children_below tree m l) ≤ l
few_children tree m zero = omega arith
few_children tree m (suc l) = few_by tree m l (not (is_root l) && parent tree l == m) (few_children tree m l)

-- and so are those of children
pub children-fit : (tree : List Row) (p : ℕ → Bool) (m : ℕ) → length tree < 4294967296 → sum_by (tests_in tree) (filter p (children tree m)) + length tree < 18446744073709551616
children-fit tree p m few =
    let fewer : length (filter p (children tree m)) ≤ length (children tree m) = fewer-pass p (children tree m) in
    let count : length (children tree m) ≤ length tree = few_children tree m (length tree) in
    sum-fits (tests_in tree) (length tree) few (tests-few tree) (filter p (children tree m)) (omega arith)

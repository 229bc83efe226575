-- Locks as they are gathered: what the nodes with a number below n give, one node after the other.
use Rattle.std.proofs.Common.{◌≡◌, ℕ, zero, suc, ◌+◌, List, [], ◌∷◌, ◌++◌, Option, None, Bool, true, false, ◌||◌, ◌&&◌, cond, filter, length, refl, sym, ap, ap₂, ◌∙◌, add-one, append-nil, arith}
use Rattle.std.proofs.lemmas.List.{map-id}
use Rattle.std.proofs.lemmas.List.Concat.{flat_map-append}
use Rattle.std.proofs.lemmas.List.Elements.{filter-append}
use Rattle.std.proofs.lemmas.List.Folds.{list_any-append}
use Rattle.std.proofs.lemmas.List.FromFn.{map-range_with_len_more}
use Rattle.std.specs.List.{flat_map, list_any, range_with_len}
use Rattle.iso_model.proofs.RightsLemmas.{rights_of-append, strongest-comm}
use Rattle.iso_model.specs.Rights.{rights_of, strongest}
use Rattle.iso_model.specs.declared.access.Access.{Access}
use Rattle.iso_model.specs.declared.heads.Mark.{Mark}
use Rattle.iso_plan.specs.Locks.{declared, effective_marks, gathered, global_access, holds_isolated, is_locking, isolates, taken}
use Rattle.iso_plan.specs.Paths.{is_top, is_under}
use Rattle.iso_plan.specs.Tree.{Row}

-- whether one of them at or under m asks for isolation
abbrev pub isolates_below : List Row → ℕ → ℕ → Bool
isolates_below tree m zero = false
isolates_below tree m (suc n) = (is_under tree m n && isolates tree n) || isolates_below tree m n

-- the strongest access that a key is marked with on one of them at or under m
abbrev pub gathered_below : List Row → ℕ → List ℕ → ℕ → Option Access
gathered_below tree m k zero = None
gathered_below tree m k (suc n) =
    strongest (cond (is_under tree m n) (declared tree n k) None) (gathered_below tree m k n)

-- the access with which m takes a key, where only they are looked at
abbrev pub taken_below : List Row → ℕ → List ℕ → ℕ → Option Access
taken_below tree m k n =
    strongest (global_access tree m k) (cond (is_locking tree m) (gathered_below tree m k n) None)

-- those at or under m
abbrev under_below : List Row → ℕ → ℕ → List ℕ
under_below tree m n = filter (is_under tree m) (range_with_len 0 n)

pub numbers_more : (n : ℕ) → range_with_len 0 (suc n) ≡ range_with_len 0 n ++ n ∷ []
numbers_more n =
    ap (range_with_len 0) (sym (add-one n)) ∙ sym (map-id (range_with_len 0 (n + 1))) ∙ map-range_with_len_more (λ j. j) 0 n n (omega arith)
    ∙ ap (λ ns. ns ++ n ∷ []) (map-id (range_with_len 0 n))

under_more : (tree : List Row) (m n : ℕ) → under_below tree m (suc n) ≡ under_below tree m n ++ cond (is_under tree m n) (n ∷ []) []
under_more tree m n = ap (filter (is_under tree m)) (numbers_more n) ∙ filter-append (is_under tree m) (range_with_len 0 n) (n ∷ [])

or_turned : (a b : Bool) → (a || b) ≡ (b || (a || false))
or_turned true true = refl
or_turned true false = refl
or_turned false true = refl
or_turned false false = refl

isolates_one : (tree : List Row) (n : ℕ) (b u : Bool) → ((u && isolates tree n) || b) ≡ (b || list_any (isolates tree) (cond u (n ∷ []) []))
isolates_one tree n b true = or_turned (isolates tree n) b
isolates_one tree n true false = refl
isolates_one tree n false false = refl

isolates_is : (tree : List Row) (m n : ℕ) → isolates_below tree m n ≡ list_any (isolates tree) (under_below tree m n)
isolates_is tree m zero = refl
isolates_is tree m (suc n) =
    ap (λ (b : Bool). (is_under tree m n && isolates tree n) || b) (isolates_is tree m n)
    ∙ isolates_one tree n (list_any (isolates tree) (under_below tree m n)) (is_under tree m n)
    ∙ sym (list_any-append (isolates tree) (under_below tree m n) (cond (is_under tree m n) (n ∷ []) []))
    ∙ ap (list_any (isolates tree)) (sym (under_more tree m n))

abbrev marks_on : List Row → List ℕ → List Mark
marks_on tree ns = flat_map (effective_marks tree) ns

declared_one : (tree : List Row) (n : ℕ) (k : List ℕ) (u : Bool) → cond u (declared tree n k) None ≡ rights_of (marks_on tree (cond u (n ∷ []) [])) k
declared_one tree n k true = ap (λ ms. rights_of ms k) (sym (append-nil (effective_marks tree n)))
declared_one tree n k false = refl

gathered_is : (tree : List Row) (m : ℕ) (k : List ℕ) (n : ℕ) → gathered_below tree m k n ≡ rights_of (marks_on tree (under_below tree m n)) k
gathered_is tree m k zero = refl
gathered_is tree m k (suc n) =
    let before = under_below tree m n in
    let here = cond (is_under tree m n) (n ∷ []) [] in
    ap₂ strongest (declared_one tree n k (is_under tree m n)) (gathered_is tree m k n)
    ∙ strongest-comm (rights_of (marks_on tree here) k) (rights_of (marks_on tree before) k)
    ∙ sym (rights_of-append (marks_on tree before) (marks_on tree here) k)
    ∙ ap (λ ms. rights_of ms k) (sym (flat_map-append (effective_marks tree) before here))
    ∙ ap (λ ns. rights_of (marks_on tree ns) k) (sym (under_more tree m n))

-- where all nodes are looked at, this is what the definitions say
pub all-isolate : (tree : List Row) (m : ℕ) → holds_isolated tree m ≡ (is_top tree m && isolates_below tree m (length tree))
all-isolate tree m = ap (λ (b : Bool). is_top tree m && b) (sym (isolates_is tree m (length tree)))

pub all-gathered : (tree : List Row) (m : ℕ) (k : List ℕ) → gathered tree m k ≡ gathered_below tree m k (length tree)
all-gathered tree m k = sym (gathered_is tree m k (length tree))

pub all-taken : (tree : List Row) (m : ℕ) (k : List ℕ) → taken tree m k ≡ taken_below tree m k (length tree)
all-taken tree m k = ap (λ (g : Option Access). strongest (global_access tree m k) (cond (is_locking tree m) g None)) (all-gathered tree m k)

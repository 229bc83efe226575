-- Each blocked test is blocked by just one of the nodes that failed.
use Rattle.std.proofs.Common.{◌≡◌, ◌<◌, ◌≤◌, ℕ, zero, suc, List, [], ◌∷◌, length, Option, Some, None, Bool, true, false, ◌&&◌, ◌||◌, ◌==◌, cond, refl, sym, ap, ◌∙◌, arith, true≢false}
use Rattle.std.specs.List.{find, sum_by}
use Rattle.iso_model.specs.Resources.{Resources}
use Rattle.iso_model.specs.declared.outcome.Outcome.{Outcome}
use Rattle.iso_plan.proofs.PathLemmas.{eq_same, under-le}
use Rattle.iso_plan.specs.Locks.{is_that}
use Rattle.iso_plan.specs.Paths.{IsTree, is_on, is_test, parent, path, row_at}
use Rattle.iso_plan.specs.Tree.{Row}
use Rattle.iso_lifecycle.specs.Subjects.{outcome_alone}
use Rattle.iso_failures.specs.Blocking.{blocked_by, is_blocked_by, nearest_failure}
use Rattle.iso_failures.specs.Counting.{how_many}
use Rattle.iso_failures.specs.Failures.{failures, is_failure}
use Rattle.iso_failures.specs.Nodes.{is_test_with, was_blocked}
use Rattle.iso_failures.proofs.OkLemmas.{blocked-in}
use Rattle.iso_failures.proofs.Sums.{many-sum, one, sum-zero, those-once}

-- what is found passes, and is one of those that were looked at
record IsFound (p : ℕ → Bool) (ns : List ℕ) (m : ℕ) : Type 0 where
  passes : p m ≡ true
  on : is_on ns m ≡ true

or_right : (a b : Bool) → b ≡ true → (a || b) ≡ true
or_right true b h = refl
or_right false b h = h

found_by : (p : ℕ → Bool) (n m : ℕ) (ns : List ℕ) (t : Bool) → p n ≡ t → (find p ns ≡ Some m → IsFound p ns m) → cond t (Some n) (find p ns) ≡ Some m → IsFound p (n ∷ ns) m
found_by p n m ns true e ih h = let same : n ≡ m = cc in record { passes = ap p (sym same) ∙ e; on = rw (ap (λ (k : ℕ). k == m) same ∙ eq_same m) refl }
found_by p n m ns false e ih h = let is = ih h in record { passes = is.passes; on = or_right (n == m) (is_on ns m) is.on }

found : (p : ℕ → Bool) (ns : List ℕ) (m : ℕ) → find p ns ≡ Some m → IsFound p ns m
found p [] m h = absurd (cc)
found p (n ∷ ns) m h = found_by p n m ns (p n) refl (found p ns m) h

parent_le : (tree : List Row) → IsTree tree → (n : ℕ) → parent tree n ≤ n
parent_le tree t zero = let first : parent tree 0 ≡ 0 = ap (λ (r : Row). r.parent) t.root_is in omega arith
parent_le tree t (suc n) = let below = t.below (suc n) (omega arith) in omega arith

module _ (tree : List Row) (t : IsTree tree) (m : Resources) where
  abbrev alone : ℕ → Outcome
  alone n = outcome_alone tree m n

  abbrev blocked : ℕ → Bool
  blocked n = is_test_with tree alone was_blocked n

  once_by : (n : ℕ) → n < length tree → (o : Option ℕ) → nearest_failure tree alone n ≡ o → (o ≡ None → ⊥) → 1 ≡ sum_by (λ c. one (is_that o c)) (failures tree alone)
  once_by n less None e some = absurd (some refl)
  once_by n less (Some c) e some =
      let is = found (is_failure alone) (path tree (parent tree n)) c e in
      let low = under-le tree t.below c (parent tree n) is.on in
      let up = parent_le tree t n in
      sym (those-once (is_failure alone) c (length tree) is.passes (omega arith))

  both_true : (a b : Bool) → (a && b) ≡ true → b ≡ true
  both_true true b h = h
  both_true false b h = absurd (true≢false (sym h))

  once : (n : ℕ) → n < length tree → (b : Bool) → blocked n ≡ b → one b ≡ sum_by (λ c. one (b && is_that (nearest_failure tree alone n) c)) (failures tree alone)
  once n less true e =
      once_by n less (nearest_failure tree alone n) refl
      (blocked-in tree t m n less (both_true (is_test (row_at tree n).kind) (was_blocked (alone n).verdict) e))
  once n less false e = sym (sum-zero (failures tree alone))

  pub blocked-sum : how_many blocked (length tree) ≡ sum_by (blocked_by tree alone) (failures tree alone)
  blocked-sum = many-sum blocked (λ c n. is_blocked_by tree alone c n) (failures tree alone) (length tree) (λ n less. once n less (blocked n) refl)

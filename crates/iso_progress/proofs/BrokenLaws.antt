-- Three suites keep all laws but one.
use Rattle.std.proofs.Common.{◌≡◌, ◌<◌, ℕ, zero, suc, true, false, ◌∷◌, inl, inr, refl, ap, ◌∙◌, arith}
use Rattle.iso_isolation.specs.Suites.{Suite, On, Covered, may_read, SuiteLaws}
use Rattle.iso_isolation.specs.Examples.{Head, counting}
use Rattle.iso_isolation.proofs.Locks.{on_split}
use Rattle.iso_progress.specs.Examples.{crossed_rows, nested_rows, rooted_rows, suite_in}
use Rattle.iso_progress.specs.ProgressLaws.{RootIsFree, HoldersGather, TestsHoldNone}
use Rattle.iso_progress.proofs.RowLocks.{meet, write_takes}

-- what holds of each of the first nodes, and of all other numbers, holds of every number
each_of_5 : (P : ℕ → Type 0) → P 0 → P 1 → P 2 → P 3 → P 4 → ((n : ℕ) → P (suc (suc (suc (suc (suc n)))))) → (n : ℕ) → P n
each_of_5 P p0 p1 p2 p3 p4 more zero = p0
each_of_5 P p0 p1 p2 p3 p4 more (suc zero) = p1
each_of_5 P p0 p1 p2 p3 p4 more (suc (suc zero)) = p2
each_of_5 P p0 p1 p2 p3 p4 more (suc (suc (suc zero))) = p3
each_of_5 P p0 p1 p2 p3 p4 more (suc (suc (suc (suc zero)))) = p4
each_of_5 P p0 p1 p2 p3 p4 more (suc (suc (suc (suc (suc n))))) = more n

each_of_3 : (P : ℕ → Type 0) → P 0 → P 1 → P 2 → ((n : ℕ) → P (suc (suc (suc n)))) → (n : ℕ) → P n
each_of_3 P p0 p1 p2 more zero = p0
each_of_3 P p0 p1 p2 more (suc zero) = p1
each_of_3 P p0 p1 p2 more (suc (suc zero)) = p2
each_of_3 P p0 p1 p2 more (suc (suc (suc n))) = more n

each_of_2 : (P : ℕ → Type 0) → P 0 → P 1 → ((n : ℕ) → P (suc (suc n))) → (n : ℕ) → P n
each_of_2 P p0 p1 more zero = p0
each_of_2 P p0 p1 more (suc zero) = p1
each_of_2 P p0 p1 more (suc (suc n)) = more n

-- two classes that cross
module _ where
  abbrev crossed : Suite Head ℕ ℕ
  crossed = suite_in crossed_rows

  crossed_top : (m n k : ℕ) → crossed.takes_write m k ≡ true → On crossed m n → (m ≡ n → ⊥) → crossed.parent n ≡ 0 → ⊥
  crossed_top m n k w on ne top =
      elim (on_split crossed on) [
        | inl e ↦ ne e
        | inr p ↦
            elim (on_split crossed p.1) [
              | inl e ↦ let f : crossed.takes_write m k ≡ false = ap (λ (j : ℕ). crossed.takes_write j k) (e ∙ top) in cc
              | inr q ↦ q.0 top
            ]
      ]

  pub crossed_laws : SuiteLaws counting crossed
  crossed_laws = record {
    root = refl;
    path = each_of_5 (λ n. (n ≡ 0 → ⊥) → crossed.path n ≡ n ∷ crossed.path (crossed.parent n))
        (λ nz. absurd (nz refl)) (λ nz. refl) (λ nz. refl) (λ nz. refl) (λ nz. refl) (λ n nz. refl);
    below = each_of_5 (λ n. (n ≡ 0 → ⊥) → crossed.parent n < n)
        (λ nz. absurd (nz refl)) (λ nz. omega arith) (λ nz. omega arith) (λ nz. omega arith) (λ nz. omega arith) (λ n nz. omega arith);
    write_takes = write_takes crossed_rows;
    conflicts = meet crossed_rows;
    covered = each_of_5 (λ n. (k : ℕ) → may_read counting crossed n k ≡ true → Covered counting crossed n k)
        (λ k r. absurd cc) (λ k r. absurd cc) (λ k r. absurd cc) (λ k r. absurd cc) (λ k r. absurd cc) (λ n k r. absurd cc);
    forced = λ m n k w. each_of_5 (λ n. On crossed m n → (m ≡ n → ⊥) → crossed.is_same_thread n ≡ true)
        (λ on ne. refl) (λ on ne. absurd (crossed_top m 1 k w on ne refl)) (λ on ne. absurd (crossed_top m 2 k w on ne refl)) (λ on ne. refl) (λ on ne. refl) (λ i on ne. refl) n;
  }

  pub crossed_root : RootIsFree crossed
  crossed_root n = refl

  pub crossed_tests : TestsHoldNone counting crossed
  crossed_tests = each_of_5 (λ n. (n ≡ 0 → ⊥) → (crossed.parent n ≡ 0 → ⊥) → counting.is_test (crossed.head (crossed.parent n)) ≡ false)
      (λ nz d. refl) (λ nz d. refl) (λ nz d. refl) (λ nz d. refl) (λ nz d. refl) (λ n nz d. refl)

-- a test in a test
module _ where
  abbrev nested : Suite Head ℕ ℕ
  nested = suite_in nested_rows

  pub nested_laws : SuiteLaws counting nested
  nested_laws = record {
    root = refl;
    path = each_of_3 (λ n. (n ≡ 0 → ⊥) → nested.path n ≡ n ∷ nested.path (nested.parent n)) (λ nz. absurd (nz refl)) (λ nz. refl) (λ nz. refl) (λ n nz. refl);
    below = each_of_3 (λ n. (n ≡ 0 → ⊥) → nested.parent n < n) (λ nz. absurd (nz refl)) (λ nz. omega arith) (λ nz. omega arith) (λ n nz. omega arith);
    write_takes = write_takes nested_rows;
    conflicts = meet nested_rows;
    covered = each_of_3 (λ n. (k : ℕ) → may_read counting nested n k ≡ true → Covered counting nested n k)
        (λ k r. absurd cc) (λ k r. absurd cc) (λ k r. absurd cc) (λ n k r. absurd cc);
    forced = each_of_3 (λ m. (n k : ℕ) → nested.takes_write m k ≡ true → On nested m n → (m ≡ n → ⊥) → nested.is_same_thread n ≡ true)
        (λ n k w. absurd cc) (λ n k w. absurd cc) (λ n k w. absurd cc) (λ m n k w. absurd cc);
  }

  pub nested_root : RootIsFree nested
  nested_root n = refl

  pub nested_gathered : HoldersGather nested
  nested_gathered m n d c = absurd (each_of_3 (λ m. nested.conflict m n ≡ true → ⊥) (λ e. cc) (λ e. cc) (λ e. cc) (λ i e. cc) m c)

-- a root that takes a key
module _ where
  abbrev rooted : Suite Head ℕ ℕ
  rooted = suite_in rooted_rows

  pub rooted_laws : SuiteLaws counting rooted
  rooted_laws = record {
    root = refl;
    path = each_of_2 (λ n. (n ≡ 0 → ⊥) → rooted.path n ≡ n ∷ rooted.path (rooted.parent n)) (λ nz. absurd (nz refl)) (λ nz. refl) (λ n nz. refl);
    below = each_of_2 (λ n. (n ≡ 0 → ⊥) → rooted.parent n < n) (λ nz. absurd (nz refl)) (λ nz. omega arith) (λ n nz. omega arith);
    write_takes = write_takes rooted_rows;
    conflicts = meet rooted_rows;
    covered = each_of_2 (λ n. (k : ℕ) → may_read counting rooted n k ≡ true → Covered counting rooted n k) (λ k r. absurd cc) (λ k r. absurd cc) (λ n k r. absurd cc);
    forced = λ m. each_of_2 (λ n. (k : ℕ) → rooted.takes_write m k ≡ true → On rooted m n → (m ≡ n → ⊥) → rooted.is_same_thread n ≡ true)
        (λ k w on ne. refl) (λ k w on ne. refl) (λ n k w on ne. refl);
  }

  rooted_flat : (n : ℕ) → rooted.parent n ≡ 0
  rooted_flat = each_of_2 (λ n. rooted.parent n ≡ 0) refl refl (λ n. refl)

  pub rooted_gathered : HoldersGather rooted
  rooted_gathered m n d c deep = absurd (deep (rooted_flat n))

  pub rooted_tests : TestsHoldNone counting rooted
  rooted_tests n nz deep = absurd (deep (rooted_flat n))

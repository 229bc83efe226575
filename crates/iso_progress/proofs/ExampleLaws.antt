-- The mall keeps all laws.
use Rattle.std.proofs.Common.{◌≡◌, ◌<◌, ℕ, zero, suc, Bool, true, false, cond, ◌&&◌, ◌||◌, ◌∷◌, Option, Some, None, ◌⊎◌, inl, inr, refl, sym, ap, ◌∙◌, arith}
use Rattle.std.proofs.Math.Dec.{eqb}
use Rattle.iso_isolation.specs.Suites.{On, same, up, Covered, may_read, SuiteLaws}
use Rattle.iso_isolation.specs.Examples.{counting, equal_keys}
use Rattle.iso_isolation.proofs.ExampleLaws.{it_is}
use Rattle.iso_isolation.proofs.Locks.{on_split}
use Rattle.iso_progress.specs.Examples.{mall_rows, row_of, mall}
use Rattle.iso_progress.proofs.RowLocks.{meet, write_takes}
use Rattle.iso_progress.specs.ProgressLaws.{ProgressLaws, WaitsForNone}

-- what holds of each node, and of all other numbers, holds of every number
each : (P : ℕ → Type 0) → P 0 → P 1 → P 2 → P 3 → P 4 → P 5 → P 6 → P 7 → P 8
    → ((n : ℕ) → P (suc (suc (suc (suc (suc (suc (suc (suc (suc n)))))))))) → (n : ℕ) → P n
each P p0 p1 p2 p3 p4 p5 p6 p7 p8 more zero = p0
each P p0 p1 p2 p3 p4 p5 p6 p7 p8 more (suc zero) = p1
each P p0 p1 p2 p3 p4 p5 p6 p7 p8 more (suc (suc zero)) = p2
each P p0 p1 p2 p3 p4 p5 p6 p7 p8 more (suc (suc (suc zero))) = p3
each P p0 p1 p2 p3 p4 p5 p6 p7 p8 more (suc (suc (suc (suc zero)))) = p4
each P p0 p1 p2 p3 p4 p5 p6 p7 p8 more (suc (suc (suc (suc (suc zero))))) = p5
each P p0 p1 p2 p3 p4 p5 p6 p7 p8 more (suc (suc (suc (suc (suc (suc zero)))))) = p6
each P p0 p1 p2 p3 p4 p5 p6 p7 p8 more (suc (suc (suc (suc (suc (suc (suc zero))))))) = p7
each P p0 p1 p2 p3 p4 p5 p6 p7 p8 more (suc (suc (suc (suc (suc (suc (suc (suc zero)))))))) = p8
each P p0 p1 p2 p3 p4 p5 p6 p7 p8 more (suc (suc (suc (suc (suc (suc (suc (suc (suc n))))))))) = more n

path_of : (n : ℕ) → (n ≡ 0 → ⊥) → mall.path n ≡ n ∷ mall.path (mall.parent n)
path_of = each (λ n. (n ≡ 0 → ⊥) → mall.path n ≡ n ∷ mall.path (mall.parent n))
    (λ nz. absurd (nz refl)) (λ nz. refl) (λ nz. refl) (λ nz. refl) (λ nz. refl) (λ nz. refl) (λ nz. refl) (λ nz. refl) (λ nz. refl) (λ n nz. refl)

below : (n : ℕ) → (n ≡ 0 → ⊥) → mall.parent n < n
below = each (λ n. (n ≡ 0 → ⊥) → mall.parent n < n)
    (λ nz. absurd (nz refl)) (λ nz. omega arith) (λ nz. omega arith) (λ nz. omega arith) (λ nz. omega arith) (λ nz. omega arith)
    (λ nz. omega arith) (λ nz. omega arith) (λ nz. omega arith) (λ n nz. omega arith)

covered : (n k : ℕ) → may_read counting mall n k ≡ true → Covered counting mall n k
covered = each (λ n. (k : ℕ) → may_read counting mall n k ≡ true → Covered counting mall n k)
    (λ k r. absurd cc)
    (λ k r. absurd cc)
    (λ k r. record { by = 2; on = same; takes = it_is (eqb k 1) r; write = λ w. it_is (eqb k 1) r })
    (λ k r. record { by = 2; on = up (λ z. omega arith) same; takes = twice (eqb k 1) r; write = λ w. twice (eqb k 1) r })
    (λ k r. record { by = 4; on = same; takes = it_is (eqb k 1) r; write = λ w. absurd cc })
    (λ k r. absurd cc) (λ k r. absurd cc) (λ k r. absurd cc) (λ k r. absurd cc) (λ n k r. absurd cc)
  where
    twice : (e : Bool) → cond e true (cond e true false) ≡ true → e ≡ true
    twice true h = refl
    twice false h = absurd cc

-- what stands above a node, and isn't it, stands at or above the one that it stands in
higher : (m n : ℕ) → On mall m n → (m ≡ n → ⊥) → On mall m (mall.parent n)
higher m n on ne = elim (on_split mall on) [ inl e ↦ absurd (ne e) | inr p ↦ p.1 ]

above_0 : (m : ℕ) → On mall m 0 → m ≡ 0
above_0 m on = elim (on_split mall on) [ inl e ↦ e | inr p ↦ absurd (p.0 refl) ]

above_1 : (m : ℕ) → On mall m 1 → (m ≡ 0) ⊎ (m ≡ 1)
above_1 m on = elim (on_split mall on) [ inl e ↦ inr e | inr p ↦ inl (above_0 m p.1) ]

above_7 : (m : ℕ) → On mall m 7 → (m ≡ 0) ⊎ (m ≡ 7)
above_7 m on = elim (on_split mall on) [ inl e ↦ inr e | inr p ↦ inl (above_0 m p.1) ]

-- the root and these classes take nothing for READ_WRITE
no_writer : (m k : ℕ) → (m ≡ 0) ⊎ ((m ≡ 1) ⊎ (m ≡ 7)) → mall.takes_write m k ≡ true → ⊥
no_writer m k (inl e) w = let f : mall.takes_write m k ≡ false = ap (λ (j : ℕ). mall.takes_write j k) e in cc
no_writer m k (inr (inl e)) w = let f : mall.takes_write m k ≡ false = ap (λ (j : ℕ). mall.takes_write j k) e in cc
no_writer m k (inr (inr e)) w = let f : mall.takes_write m k ≡ false = ap (λ (j : ℕ). mall.takes_write j k) e in cc

in_1 : {m : ℕ} → (m ≡ 0) ⊎ (m ≡ 1) → (m ≡ 0) ⊎ ((m ≡ 1) ⊎ (m ≡ 7))
in_1 (inl e) = inl e
in_1 (inr e) = inr (inl e)

in_7 : {m : ℕ} → (m ≡ 0) ⊎ (m ≡ 7) → (m ≡ 0) ⊎ ((m ≡ 1) ⊎ (m ≡ 7))
in_7 (inl e) = inl e
in_7 (inr e) = inr (inr e)

forced : (m n k : ℕ) → mall.takes_write m k ≡ true → On mall m n → (m ≡ n → ⊥) → mall.is_same_thread n ≡ true
forced m n k w = each (λ n. On mall m n → (m ≡ n → ⊥) → mall.is_same_thread n ≡ true)
    (λ on ne. refl)
    (λ on ne. absurd (no_writer m k (inl (above_0 m (higher m 1 on ne))) w))
    (λ on ne. absurd (no_writer m k (in_1 (above_1 m (higher m 2 on ne))) w))
    (λ on ne. refl)
    (λ on ne. absurd (no_writer m k (in_1 (above_1 m (higher m 4 on ne))) w))
    (λ on ne. absurd (no_writer m k (inl (above_0 m (higher m 5 on ne))) w))
    (λ on ne. refl)
    (λ on ne. absurd (no_writer m k (inl (above_0 m (higher m 7 on ne))) w))
    (λ on ne. absurd (no_writer m k (in_7 (above_7 m (higher m 8 on ne))) w))
    (λ n on ne. refl) n

pub mall_laws : SuiteLaws counting mall
mall_laws = record {
  root = refl;
  path = path_of;
  below = below;
  write_takes = write_takes mall_rows;
  conflicts = meet mall_rows;
  covered = covered;
  forced = forced;
}

-- who takes no key waits for none
no_keys : (p : Option ℕ) (w : Bool) → (equal_keys p None && w) ≡ false
no_keys None w = refl
no_keys (Some p) w = refl

-- the root, and class 1 within a top-level class, are in no node's way
no_conflict : (m n : ℕ) → (m ≡ 0) ⊎ (m ≡ 1) → mall.conflict m n ≡ true → (mall.parent n ≡ 0 → ⊥) → ⊥
no_conflict m n (inl e) c deep = let f : mall.conflict m n ≡ false = ap (λ (j : ℕ). mall.conflict j n) e in cc
no_conflict m n (inr e) c deep =
    each (λ n. mall.conflict 1 n ≡ true → (mall.parent n ≡ 0 → ⊥) → ⊥)
    (λ f d. cc) (λ f d. cc) (λ f d. cc) (λ f d. cc) (λ f d. cc) (λ f d. d refl) (λ f d. cc) (λ f d. cc) (λ f d. cc) (λ i f d. cc)
    n (sym (ap (λ (j : ℕ). mall.conflict j n) e) ∙ c) deep

gathered : (m n d : ℕ) → mall.conflict m n ≡ true → (mall.parent n ≡ 0 → ⊥) → On mall m d → (m ≡ d → ⊥) → WaitsForNone mall d
gathered m n d c deep = each (λ d. On mall m d → (m ≡ d → ⊥) → WaitsForNone mall d)
    (λ on ne. absurd (ne (above_0 m on)))
    (λ on ne. absurd (no_conflict m n (inl (above_0 m (higher m 1 on ne))) c deep))
    (λ on ne. absurd (no_conflict m n (above_1 m (higher m 2 on ne)) c deep))
    (λ on ne j. no_keys (row_of mall_rows j).lock ((row_of mall_rows j).is_writer || false))
    (λ on ne. absurd (no_conflict m n (above_1 m (higher m 4 on ne)) c deep))
    (λ on ne. absurd (no_conflict m n (inl (above_0 m (higher m 5 on ne))) c deep))
    (λ on ne j. no_keys (row_of mall_rows j).lock ((row_of mall_rows j).is_writer || false))
    (λ on ne. absurd (no_conflict m n (inl (above_0 m (higher m 7 on ne))) c deep))
    (λ on ne j. no_keys (row_of mall_rows j).lock ((row_of mall_rows j).is_writer || false))
    (λ i on ne j. no_keys (row_of mall_rows j).lock ((row_of mall_rows j).is_writer || false)) d

tests : (n : ℕ) → (n ≡ 0 → ⊥) → (mall.parent n ≡ 0 → ⊥) → counting.is_test (mall.head (mall.parent n)) ≡ false
tests = each (λ n. (n ≡ 0 → ⊥) → (mall.parent n ≡ 0 → ⊥) → counting.is_test (mall.head (mall.parent n)) ≡ false)
    (λ nz d. refl) (λ nz d. refl) (λ nz d. refl) (λ nz d. refl) (λ nz d. refl) (λ nz d. refl) (λ nz d. refl) (λ nz d. refl) (λ nz d. refl) (λ n nz d. refl)

pub mall_goes_on : ProgressLaws counting mall
mall_goes_on = record { root = λ n. refl; gathered = gathered; tests = tests }

-- Words whose lengths differ are as far apart at least.
use Rattle.std.proofs.Common.{◌≡◌, ℕ, zero, suc, ◌+◌, ◌-◌, ◌<◌, ◌≤◌, ◌/◌, List, [], ◌∷◌, Bool, true, false, ◌&&◌, Option, None, if◌then◌else◌, length, max, min, nat_le, nat_eq, refl, arith}
use Rattle.std.proofs.lemmas.Bool.Decides.{nat_tests}
use Rattle.std.proofs.lemmas.Int.{clamps}
use Rattle.std.specs.Int.{abs_diff}
use Rattle.std.specs.Str.{chars}
use Rattle.strsim.proofs.OsaLemmas.{osa_count}
use Rattle.strsim.specs.Edits.{OsaState, cost_at, osa_from, osa_row, osa_step, osa_table, swaps_at}
use Rattle.iso_hints.specs.Nearest.{distance, is_near, may_be_near}

-- the least of two is as great as both are
least : (a b c m : ℕ) → m ≤ a + c → m ≤ b + c → m ≤ min a b + c
least a b c m first second = omega (arith, clamps, first, second)

least_if : (t : Bool) (a b c m : ℕ) → m ≤ a + c → m ≤ b + c → m ≤ (if t then min a b else a) + c
least_if true a b c m first second = least a b c m first second
least_if false a b c m first second = first

-- no cell of a table is less than its row and its column are apart
record IsApart (s : OsaState) : Type 0 where
  rows : (k : ℕ) → s.count ≤ s.last_row k + k
  columns : (k : ℕ) → k ≤ s.last_row k + s.count
  rows_before : (k : ℕ) → s.count ≤ s.row_before k + (k + 1)
  columns_before : (k : ℕ) → k ≤ s.row_before k + s.count

row_rows : (p : Option ℕ) (x : ℕ) (ys : List ℕ) (two one : ℕ → ℕ) (n k : ℕ) → ((j : ℕ) → n ≤ one j + j) → ((j : ℕ) → n ≤ two j + (j + 1))
    → n + 1 ≤ osa_row p x ys two one (n + 1) k + k
unfolding osa_row
row_rows p x ys two one n zero last before = omega arith
row_rows p x ys two one n (suc k) last before =
    let left = row_rows p x ys two one n k last before in
    let above = last (suc k) in
    let aside = last k in
    let swapped = before (k - 1) in
    let row = osa_row p x ys two one (n + 1) k in
    let change = cost_at nat_eq x ys k in
    least_if (swaps_at p x ys k) (min (row + 1) (min (one (suc k) + 1) (one k + change))) (two (k - 1) + 1) (suc k) (n + 1)
    (least (row + 1) (min (one (suc k) + 1) (one k + change)) (suc k) (n + 1) (omega (arith, left))
    (least (one (suc k) + 1) (one k + change) (suc k) (n + 1) (omega (arith, above)) (omega (arith, aside))))
    (omega (arith, swapped))

row_columns : (p : Option ℕ) (x : ℕ) (ys : List ℕ) (two one : ℕ → ℕ) (n k : ℕ) → ((j : ℕ) → j ≤ one j + n) → ((j : ℕ) → j ≤ two j + n)
    → k ≤ osa_row p x ys two one (n + 1) k + (n + 1)
unfolding osa_row
row_columns p x ys two one n zero last before = omega arith
row_columns p x ys two one n (suc k) last before =
    let left = row_columns p x ys two one n k last before in
    let above = last (suc k) in
    let aside = last k in
    let swapped = before (k - 1) in
    let row = osa_row p x ys two one (n + 1) k in
    let change = cost_at nat_eq x ys k in
    least_if (swaps_at p x ys k) (min (row + 1) (min (one (suc k) + 1) (one k + change))) (two (k - 1) + 1) (n + 1) (suc k)
    (least (row + 1) (min (one (suc k) + 1) (one k + change)) (n + 1) (suc k) (omega (arith, left))
    (least (one (suc k) + 1) (one k + change) (n + 1) (suc k) (omega (arith, above)) (omega (arith, aside))))
    (omega (arith, swapped))

step_apart : (ys : List ℕ) (s : OsaState) (x : ℕ) → IsApart s → IsApart (osa_step ys s x)
step_apart ys s x apart = record {
  rows = λ k. row_rows s.last_item x ys s.row_before s.last_row s.count k apart.rows apart.rows_before;
  columns = λ k. row_columns s.last_item x ys s.row_before s.last_row s.count k apart.columns apart.columns_before;
  rows_before = λ k. let last = apart.rows k in omega (arith, last);
  columns_before = λ k. let last = apart.columns k in omega (arith, last);
}

from_apart : (ys : List ℕ) (s : OsaState) (xs : List ℕ) → IsApart s → IsApart (osa_from ys s xs)
unfolding osa_from
from_apart ys s [] apart = apart
from_apart ys s (x ∷ xs) apart = from_apart ys (osa_step ys s x) xs (step_apart ys s x apart)

table_apart : (xs ys : List ℕ) → IsApart (osa_table xs ys)
table_apart xs ys = from_apart ys _ xs record {
  rows = λ k. omega arith;
  columns = λ k. omega arith;
  rows_before = λ k. omega arith;
  columns_before = λ k. omega arith;
}

-- how far two words are apart, by their characters
apart-at-least : (word other : List ℕ) → (length (chars word) ≤ distance word other + length (chars other)) × (length (chars other) ≤ distance word other + length (chars word))
apart-at-least word other =
    let table = table_apart (chars word) (chars other) in
    let count = osa_count (chars other) (record { row_before = λ j. j; last_row = λ j. j; last_item = None; count = 0 }) (chars word) in
    let rows = table.rows (length (chars other)) in
    let columns = table.columns (length (chars other)) in
    (omega (arith, rows, count), omega (arith, columns, count))

-- words are not near whose lengths differ by more
pub not-near : (word other : List ℕ) → max (length word) (length other) / 3 < abs_diff (length (chars word)) (length (chars other))
    → is_near word other ≡ false
not-near word other far =
    let bounds = apart-at-least word other in
    let rows = bounds.0 in
    let columns = bounds.1 in
    let apart : max (length word) (length other) / 3 < distance word other = omega (arith, far, rows, columns) in
    let far_off : nat_le (distance word other) (max (length word) (length other) / 3) ≡ false = grind (arith, nat_tests, apart) in
    by (may_be_near word other) (nat_le (distance word other) (max (length word) (length other) / 3)) far_off
  where
    by : (s t : Bool) → t ≡ false → (s && t) ≡ false
    by true t e = e
    by false t e = refl

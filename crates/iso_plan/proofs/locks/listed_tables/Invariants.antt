use Rattle.std.proofs.Common.{◌≡◌, ◌<◌, ◌-◌, ℕ, List, [], false, true, length, map, slice_index_or}
use Rattle.iso_plan.specs.Locks.{locks_from}
use Rattle.iso_plan.specs.Paths.{column}
use Rattle.iso_plan.specs.declared.lock.Lock.{Lock}
use Rattle.iso_plan.proofs.locks.listed_tables.Given as goal

abbrev pub invariant-tables : goal.invariant-tables
invariant-tables l = record {
  each : length l.locks.items ≡ l.n;
  listed : (locks : ℕ → List Lock) → ((n : ℕ) → n < length l.tables → slice_index_or l.repeated n false ≡ false → locks_from 0 (slice_index_or (map (λ t. t.items) l.tables) n []) ≡ locks n)
      → ((n : ℕ) → n < length l.tables → slice_index_or l.repeated n false ≡ true → locks (n - 1) ≡ locks n) → l.locks.items ≡ column locks l.n;
}

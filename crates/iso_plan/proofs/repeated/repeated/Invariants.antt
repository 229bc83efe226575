use Rattle.std.proofs.Common.{◌≡◌, ◌<◌, ℕ, false, true, length, map, slice_index_or}
use Rattle.iso_plan.specs.Repeated.{Repeats}
use Rattle.iso_plan.specs.RowView.{row_of}
use Rattle.iso_plan.proofs.repeated.repeated.Given as goal

abbrev pub invariant-nodes : goal.invariant-nodes
invariant-nodes l = record {
  each : length l.repeated.items ≡ l.n;
  repeats : (n : ℕ) → n < l.n → slice_index_or l.repeated.items n false ≡ true → Repeats (map row_of l.rows) n;
}

use Rattle.std.proofs.Common.{◌≡◌, ◌≤◌, length, vec_capacity}
use Rattle.iso_times.proofs.table.Table.into_times.Given as goal

abbrev pub invariant-cells : goal.invariant-cells
invariant-cells l = record {
  count : length l.times.items ≡ l.cell-index;
  room : length l.cell-items ≤ vec_capacity l.times;
}

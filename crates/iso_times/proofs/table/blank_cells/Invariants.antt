use Rattle.std.proofs.Common.{◌≡◌, ◌≤◌, length, vec_capacity}
use Rattle.iso_times.proofs.table.blank_cells.Given as goal

abbrev pub invariant-cells : goal.invariant-cells
invariant-cells l = record {
  count : length l.cells.items ≡ l._n;
  room : l.count ≤ vec_capacity l.cells;
}

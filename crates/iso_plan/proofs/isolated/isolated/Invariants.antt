use Rattle.std.proofs.Common.{◌≡◌, ◌<◌, ◌&&◌, ℕ, false, length, map, slice_index_or}
use Rattle.iso_plan.proofs.SoFar.{isolates_below}
use Rattle.iso_plan.specs.Paths.{is_top}
use Rattle.iso_plan.specs.RowView.{row_of}
use Rattle.iso_plan.proofs.isolated.isolated.Given as goal

abbrev pub invariant-nodes : goal.invariant-nodes
invariant-nodes l = record {
  each : length l.isolated.items ≡ length l.rows;
  so_far : (m : ℕ) → m < length l.rows → slice_index_or l.isolated.items m false ≡ (is_top (map row_of l.rows) m && isolates_below (map row_of l.rows) m l.n);
}

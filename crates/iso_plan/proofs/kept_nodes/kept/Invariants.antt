use Rattle.std.proofs.Common.{◌≡◌, ◌||◌, ℕ, List, false, filter, get_or, length, map}
use Rattle.std.specs.List.{list_any, range_with_len}
use Rattle.iso_plan.specs.Paths.{column, is_root, is_under}
use Rattle.iso_plan.specs.RowView.{row_of}
use Rattle.iso_plan.specs.KeptNodes.{is_chosen}
use Rattle.iso_plan.proofs.kept_nodes.kept.Given as goal

abbrev pub invariant-nodes : goal.invariant-nodes
invariant-nodes l = record {
  each : length l.kept.items ≡ length l.rows;
  marked : (only : List (List ℕ)) → l.chosen ≡ column (is_chosen (map row_of l.rows) only) (length l.rows) → (m : ℕ)
      → get_or l.kept.items m false ≡ (is_root m || list_any (is_chosen (map row_of l.rows) only) (filter (is_under (map row_of l.rows) m) (range_with_len 0 l.n)));
}

use Rattle.std.proofs.Common.{◌≡◌, [], ℕ, ◌<◌, map, length, slice_index_or, vec_len}
use Rattle.iso_plan.specs.Paths.{children_below}
use Rattle.iso_plan.specs.RowView.{row_of}
use Rattle.iso_plan.proofs.child_lists.children.Given as goal

abbrev pub invariant-nodes : goal.invariant-nodes
invariant-nodes l = record {
  each : vec_len l.children ≡ length l.rows;
  below : (m : ℕ) → m < length l.rows → slice_index_or (map (λ c. c.items) l.children.items) m [] ≡ children_below (map row_of l.rows) m l.n;
}

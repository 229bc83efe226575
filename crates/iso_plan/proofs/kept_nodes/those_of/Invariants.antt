use Rattle.std.proofs.Common.{◌≡◌, ◌≤◌, ℕ, false, drop, get_or, length, map}
use Rattle.std.specs.Vec.Iter.{into_iter_items}
use Rattle.iso_plan.specs.Paths.{column, row_at}
use Rattle.iso_plan.specs.RowView.{row_of}
use Rattle.iso_plan.specs.KeptNodes.{number_among, renumbered, those_below}
use Rattle.iso_plan.proofs.kept_nodes.those_of.Given as goal

abbrev pub invariant-nodes : goal.invariant-nodes
invariant-nodes l = record {
  within : length l.numbers.items ≤ length l.fn.rows.items;
  rest : into_iter_items l.row-iterator ≡ drop (length l.numbers.items) l.fn.rows.items;
  numbers_are : l.numbers.items ≡ column (number_among (λ (n : ℕ). get_or l.kept n false)) (length l.numbers.items);
  left_are : map row_of l.left.items ≡ map (λ (n : ℕ). renumbered (λ (m : ℕ). get_or l.kept m false) (row_at (map row_of l.fn.rows.items) n))
      (those_below (λ (n : ℕ). get_or l.kept n false) (length l.numbers.items));
}

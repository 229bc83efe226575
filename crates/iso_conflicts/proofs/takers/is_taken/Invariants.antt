use Rattle.std.proofs.Common.{◌≡◌, ◌-◌, length}
use Rattle.std.specs.List.{list_any, range_with_len}
use Rattle.iso_conflicts.specs.Takers.{takes}
use Rattle.iso_plan.specs.RowView.{tree_of}
use Rattle.iso_conflicts.proofs.takers.is_taken.Given as goal

abbrev pub invariant-nodes : goal.invariant-nodes
invariant-nodes l =
    list_any (takes (tree_of l.plan) l.access l.key) (range_with_len l.node (length l.plan.rows - l.node))
    ≡ list_any (takes (tree_of l.plan) l.access l.key) (range_with_len 1 (length l.plan.rows - 1))

use Rattle.std.proofs.Common.{◌-◌, filter, length}
use Rattle.std.specs.List.{range_with_len}
use Rattle.iso_conflicts.specs.ConflictsText.{spaced_paths}
use Rattle.iso_conflicts.specs.Takers.{takers, takes}
use Rattle.iso_plan.specs.RowView.{tree_of}
use Rattle.iso_tap.proofs.PrinterLemmas.{LeftToPrint}
use Rattle.iso_conflicts.proofs.conflicts.taker_paths.Given as goal

abbrev pub invariant-nodes : goal.invariant-nodes
invariant-nodes g l =
    LeftToPrint l.fn.printer l.printer (spaced_paths (tree_of l.plan) (takers (tree_of l.plan) l.access l.key))
    (spaced_paths (tree_of l.plan) (filter (takes (tree_of l.plan) l.access l.key) (range_with_len l.node (length l.plan.rows - l.node))))

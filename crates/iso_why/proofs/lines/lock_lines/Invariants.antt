use Rattle.std.proofs.Common.{drop}
use Rattle.std.specs.List.{flat_map}
use Rattle.iso_plan.specs.Locks.{locks}
use Rattle.iso_plan.specs.RowView.{tree_of}
use Rattle.iso_tap.proofs.PrinterLemmas.{LeftToPrint}
use Rattle.iso_why.specs.WhyText.{lock_line}
use Rattle.iso_why.proofs.lines.lock_lines.Given as goal

abbrev pub invariant-locks : goal.invariant-locks
invariant-locks g l =
    LeftToPrint l.fn.printer l.printer (flat_map (lock_line (tree_of l.plan) l.node) (locks (tree_of l.plan) l.node))
    (flat_map (lock_line (tree_of l.plan) l.node) (drop l.lock-index (locks (tree_of l.plan) l.node)))

use Rattle.std.proofs.Common.{drop, flat_map}
use Rattle.iso_html.specs.Modes.{lock_text}
use Rattle.iso_plan.specs.RowView.{tree_of}
use Rattle.iso_tap.proofs.PrinterLemmas.{LeftToPrint}
use Rattle.iso_html.proofs.mode.all_locks.Given as goal

abbrev pub invariant-loop-lock : goal.invariant-loop-lock
invariant-loop-lock g l = LeftToPrint l.fn.printer l.printer (flat_map (lock_text (tree_of l.plan)) l.locks) (flat_map (lock_text (tree_of l.plan)) (drop l.lock-index l.locks))

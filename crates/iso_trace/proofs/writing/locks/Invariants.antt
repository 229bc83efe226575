use Rattle.std.proofs.Common.{drop, map}
use Rattle.iso_plan.specs.RowView.{tree_of}
use Rattle.iso_trace.specs.Parts.{joined}
use Rattle.iso_trace.specs.Parts.{lock_text}
use Rattle.iso_tap.proofs.PrinterLemmas.{LeftToPrint}
use Rattle.iso_trace.proofs.writing.locks.Given as goal

abbrev pub invariant-loop-lock : goal.invariant-loop-lock
invariant-loop-lock g l = LeftToPrint l.fn.printer l.printer (joined (map (lock_text (tree_of l.run.plan.now)) l.locks)) (joined (map (lock_text (tree_of l.run.plan.now)) (drop l.lock-index l.locks)))

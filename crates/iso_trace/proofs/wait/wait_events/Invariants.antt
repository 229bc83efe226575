use Rattle.std.proofs.Common.{drop}
use Rattle.iso_plan.specs.RowView.{tree_of}
use Rattle.iso_tap.proofs.PrinterLemmas.{LeftToPrint}
use Rattle.iso_trace.specs.TraceText.{wait_events}
use Rattle.iso_trace.proofs.wait.wait_events.Given as goal

abbrev pub invariant-loop-id : goal.invariant-loop-id
invariant-loop-id g l =
    LeftToPrint l.fn.printer l.printer (wait_events (tree_of l.run.plan.now) 0 l.waits) (wait_events (tree_of l.run.plan.now) l.id (drop l.id l.waits))

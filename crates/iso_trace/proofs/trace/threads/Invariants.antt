use Rattle.std.proofs.Common.{◌-◌}
use Rattle.iso_tap.proofs.PrinterLemmas.{LeftToPrint}
use Rattle.iso_trace.specs.TraceText.{thread_events}
use Rattle.iso_trace.proofs.trace.threads.Given as goal

abbrev pub invariant-workers : goal.invariant-workers
invariant-workers g l = LeftToPrint l.fn.printer l.printer (thread_events l.workers 0) (thread_events (l.workers - l.worker) l.worker)

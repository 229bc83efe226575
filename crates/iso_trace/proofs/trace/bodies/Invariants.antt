use Rattle.std.proofs.Common.{◌-◌, length}
use Rattle.iso_plan.specs.RowView.{tree_of}
use Rattle.iso_tap.proofs.PrinterLemmas.{LeftToPrint}
use Rattle.iso_trace.specs.TraceText.{body_events}
use Rattle.iso_trace.proofs.trace.bodies.Given as goal

abbrev pub invariant-nodes : goal.invariant-nodes
invariant-nodes g l =
    LeftToPrint l.fn.printer l.printer (body_events (tree_of l.run.plan.now) l.run.times.now l.run.results.now l.run.critical.now (length l.run.plan.now.rows - 1) 1)
    (body_events (tree_of l.run.plan.now) l.run.times.now l.run.results.now l.run.critical.now (length l.run.plan.now.rows - l.node) l.node)

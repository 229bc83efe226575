use Rattle.std.proofs.Common.{drop, map}
use Rattle.iso_plan.specs.RowView.{tree_of}
use Rattle.iso_trace.specs.Parts.{joined}
use Rattle.iso_trace.specs.TraceText.{section_text}
use Rattle.iso_tap.proofs.PrinterLemmas.{LeftToPrint}
use Rattle.iso_trace.proofs.trace.sections.Given as goal

abbrev pub invariant-loop-section : goal.invariant-loop-section
invariant-loop-section g l = LeftToPrint l.fn.printer l.printer (joined (map (section_text (tree_of l.run.plan.now) l.run.times.now l.run.results.now l.run.critical.now) l.sections))
    (joined (map (section_text (tree_of l.run.plan.now) l.run.times.now l.run.results.now l.run.critical.now) (drop l.section-index l.sections)))

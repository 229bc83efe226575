use Rattle.std.proofs.Common.{drop, flat_map}
use Rattle.iso_html.specs.Sections.{slow_line}
use Rattle.iso_plan.specs.RowView.{tree_of}
use Rattle.iso_tap.proofs.PrinterLemmas.{LeftToPrint}
use Rattle.iso_html.proofs.section.slowest.Given as goal

abbrev pub invariant-loop-timed : goal.invariant-loop-timed
invariant-loop-timed g l = LeftToPrint l.fn.printer l.printer (flat_map (slow_line (tree_of l.plan)) l.slowest) (flat_map (slow_line (tree_of l.plan)) (drop l.timed-index l.slowest))

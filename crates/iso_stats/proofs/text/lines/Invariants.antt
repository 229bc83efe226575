use Rattle.std.proofs.Common.{drop, map}
use Rattle.iso_plan.specs.RowView.{tree_of}
use Rattle.iso_stats.specs.Parts.{joined}
use Rattle.iso_stats.specs.StatsText.{line_text}
use Rattle.iso_tap.proofs.PrinterLemmas.{LeftToPrint}
use Rattle.iso_stats.proofs.text.lines.Given as goal

abbrev pub invariant-loop-line : goal.invariant-loop-line
invariant-loop-line g l =
    LeftToPrint l.fn.printer l.printer (joined (map (line_text (tree_of l.plan)) l.lines)) (joined (map (line_text (tree_of l.plan)) (drop l.line-index l.lines)))

use Rattle.std.proofs.Common.{length}
use Rattle.iso_junit.specs.Elements.{lines_text}
use Rattle.iso_model.specs.LinesView.{lines_in}
use Rattle.iso_tap.proofs.PrinterLemmas.{LeftToPrint}
use Rattle.iso_junit.proofs.writing.all_lines.Given as goal

abbrev pub invariant-lines : goal.invariant-lines
invariant-lines g l = LeftToPrint l.fn.printer l.printer (lines_text (lines_in l.lines)) (lines_text (lines_in l.left))

abbrev pub decreases-lines : goal.decreases-lines
decreases-lines g l = length (lines_in l.left)

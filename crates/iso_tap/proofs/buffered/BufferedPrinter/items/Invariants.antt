use Rattle.std.proofs.Common.{length}
use Rattle.iso_model.specs.LinesView.{lines_in}
use Rattle.iso_tap.specs.ReportBlocks.{item_lines}
use Rattle.iso_tap.proofs.BufferLemmas.{LeftToBuffer}
use Rattle.iso_tap.proofs.buffered.BufferedPrinter.items.Given as goal

abbrev pub invariant-lines : goal.invariant-lines
invariant-lines g l = LeftToBuffer l.fn.self l.self (item_lines l.indent (lines_in l.lines)) (item_lines l.indent (lines_in l.left))

abbrev pub decreases-lines : goal.decreases-lines
decreases-lines g l = length (lines_in l.left)

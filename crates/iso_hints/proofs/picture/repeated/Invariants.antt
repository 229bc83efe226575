use Rattle.std.proofs.Common.{replicate}
use Rattle.iso_tap.proofs.PrinterLemmas.{LeftToPrint}
use Rattle.iso_hints.proofs.picture.repeated.Given as goal

abbrev pub decreases-loop-left : goal.decreases-loop-left
decreases-loop-left g l = l.left

abbrev pub invariant-loop-left : goal.invariant-loop-left
invariant-loop-left g l = LeftToPrint l.fn.printer l.printer (replicate l.count l.byte) (replicate l.left l.byte)

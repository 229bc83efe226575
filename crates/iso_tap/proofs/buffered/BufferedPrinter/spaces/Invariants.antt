use Rattle.std.proofs.Common.{replicate}
use Rattle.iso_tap.proofs.BufferLemmas.{LeftToBuffer}
use Rattle.iso_tap.proofs.buffered.BufferedPrinter.spaces.Given as goal

abbrev pub invariant-loop-left : goal.invariant-loop-left
invariant-loop-left g l = LeftToBuffer l.fn.self l.self (replicate l.fn.count 32) (replicate l.left 32)

abbrev pub decreases-loop-left : goal.decreases-loop-left
decreases-loop-left g l = l.left

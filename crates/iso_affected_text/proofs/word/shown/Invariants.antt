use Rattle.std.proofs.Common.{drop, map}
use Rattle.iso_summary.specs.ShownLines.{shown_byte}
use Rattle.iso_tap.proofs.PrinterLemmas.{LeftToPrint}
use Rattle.iso_affected_text.proofs.word.shown.Given as goal

abbrev pub invariant-loop-byte : goal.invariant-loop-byte
invariant-loop-byte g l = LeftToPrint l.fn.printer l.printer (map shown_byte l.bytes) (map shown_byte (drop l.byte-index l.bytes))

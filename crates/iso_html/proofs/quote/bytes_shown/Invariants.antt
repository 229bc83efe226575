use Rattle.std.proofs.Common.{drop, map}
use Rattle.iso_junit.specs.Escapes.{escaped}
use Rattle.iso_summary.specs.ShownLines.{shown_byte}
use Rattle.iso_tap.proofs.PrinterLemmas.{LeftToPrint}
use Rattle.iso_html.proofs.quote.bytes_shown.Given as goal

abbrev pub invariant-loop-byte : goal.invariant-loop-byte
invariant-loop-byte g l = LeftToPrint l.fn.printer l.printer (escaped (map shown_byte l.bytes)) (escaped (map shown_byte (drop l.byte-index l.bytes)))

use Rattle.std.proofs.Common.{drop}
use Rattle.iso_github.specs.Commands.{in_property}
use Rattle.iso_tap.proofs.PrinterLemmas.{LeftToPrint}
use Rattle.iso_github.proofs.escape.property.Given as goal

abbrev pub invariant-loop-byte : goal.invariant-loop-byte
invariant-loop-byte g l = LeftToPrint l.fn.printer l.printer (in_property l.text) (in_property (drop l.byte-index l.text))

use Rattle.std.proofs.Common.{drop}
use Rattle.iso_github.specs.Commands.{in_message}
use Rattle.iso_tap.proofs.PrinterLemmas.{LeftToPrint}
use Rattle.iso_github.proofs.escape.message.Given as goal

abbrev pub invariant-loop-byte : goal.invariant-loop-byte
invariant-loop-byte g l = LeftToPrint l.fn.printer l.printer (in_message l.text) (in_message (drop l.byte-index l.text))

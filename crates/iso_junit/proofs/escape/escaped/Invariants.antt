use Rattle.std.proofs.Common.{◌≡◌, length}
use Rattle.iso_junit.specs.Escapes.{escaped, plain_len}
use Rattle.iso_tap.proofs.PrinterLemmas.{LeftToPrint}
use Rattle.iso_junit.proofs.escape.escaped.Given as goal

abbrev pub invariant-loop-plain : goal.invariant-loop-plain
invariant-loop-plain g l =
    record {
      left : LeftToPrint l.fn.printer l.printer (escaped l.fn.text) (escaped l.rest);
      plain : l.plain ≡ plain_len l.rest;
    }

abbrev pub decreases-loop-plain : goal.decreases-loop-plain
decreases-loop-plain g l = length l.rest

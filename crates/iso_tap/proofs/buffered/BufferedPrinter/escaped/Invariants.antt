use Rattle.std.proofs.Common.{◌≡◌, length}
use Rattle.iso_tap.specs.Escapes.{with_escapes, plain_len}
use Rattle.iso_tap.proofs.BufferLemmas.{LeftToBuffer}
use Rattle.iso_tap.proofs.buffered.BufferedPrinter.escaped.Given as goal

abbrev pub invariant-loop-plain : goal.invariant-loop-plain
invariant-loop-plain g l =
    record {
      left : LeftToBuffer l.fn.self l.self (with_escapes l.other l.fn.text) (with_escapes l.other l.rest);
      plain : l.plain ≡ plain_len l.other l.rest;
    }

abbrev pub decreases-loop-plain : goal.decreases-loop-plain
decreases-loop-plain g l = length l.rest

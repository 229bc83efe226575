use Rattle.std.proofs.Common.{◌≡◌, length, map, take}
use Rattle.iso_summary.specs.ShownLines.{shown_byte}
use Rattle.iso_summary.proofs.shown_line.shown_bytes.Given as goal

abbrev pub invariant-loop-i : goal.invariant-loop-i
invariant-loop-i l =
    record {
      room : length l.shown ≡ 160;
      shown : take l.i l.shown ≡ map shown_byte (take l.i l.line);
    }

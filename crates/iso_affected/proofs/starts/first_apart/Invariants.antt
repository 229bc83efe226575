use Rattle.std.proofs.Common.{◌≡◌, take}
use Rattle.iso_affected.proofs.MarkLemmas.{Alike}
use Rattle.iso_affected.proofs.starts.first_apart.Given as goal

abbrev pub invariant-marks : goal.invariant-marks
invariant-marks l = record {
  starts : l.starts ≡ l.fn.starts;
  alike : Alike l.fn.starts.before l.fn.starts.after (take l.i l.marks);
}

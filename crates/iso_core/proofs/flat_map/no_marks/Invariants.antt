use Rattle.std.proofs.Common.{◌≡◌, None, replicate}
use Rattle.iso_core.proofs.flat_map.no_marks.Given as goal

abbrev pub invariant-marks : goal.invariant-marks
invariant-marks l = l.marks.items ≡ replicate l._n None

use Rattle.std.proofs.Common.{◌≡◌, take}
use Rattle.iso_model.proofs.same.heads.same_marks.Given as goal

abbrev pub invariant-marks : goal.invariant-marks
invariant-marks l = take l.i l.a ≡ take l.i l.b

use Rattle.std.proofs.Common.{◌≡◌, drop}
use Rattle.iso_plan.specs.Locks.{marks_global}
use Rattle.iso_plan.proofs.isolated.marks_global.Given as goal

abbrev pub invariant-marks : goal.invariant-marks
invariant-marks l = marks_global (drop l.mark-index l.marks) ≡ marks_global l.marks

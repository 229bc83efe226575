use Rattle.std.proofs.Common.{◌≡◌, drop}
use Rattle.iso_plan.specs.Merged.{merged, with_marks}
use Rattle.iso_plan.proofs.merged.merged.Given as goal

abbrev pub invariant-marks : goal.invariant-marks
invariant-marks l = with_marks l.marks.items (drop l.mark-index l.written) ≡ merged l.written

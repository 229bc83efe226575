use Rattle.std.proofs.Common.{◌≡◌, ◌++◌, drop}
use Rattle.iso_model.specs.Targets.{marks_for}
use Rattle.iso_plan.proofs.children_marks.add_marks.Given as goal

abbrev pub invariant-marks : goal.invariant-marks
invariant-marks l = l.marks.items ++ marks_for l.target (drop l.mark-index l.written) ≡ l.fn.marks.items ++ marks_for l.target l.written

use Rattle.std.proofs.Common.{◌≡◌, drop}
use Rattle.std.specs.List.{list_any}
use Rattle.iso_model.specs.Targets.{is_for_children}
use Rattle.iso_script.proofs.mark.any_for_children.Given as goal

abbrev pub invariant-marks : goal.invariant-marks
invariant-marks l = list_any is_for_children (drop l.mark-index l.marks) ≡ list_any is_for_children l.marks

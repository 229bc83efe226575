use Rattle.std.proofs.Common.{◌≡◌, drop}
use Rattle.iso_model.specs.Rights.{rights_of, strongest}
use Rattle.iso_why.proofs.givers.declared.Given as goal

abbrev pub invariant-marks : goal.invariant-marks
invariant-marks l = strongest l.found (rights_of (drop l.mark-index l.marks) l.key) ≡ rights_of l.marks l.key

use Rattle.std.proofs.Common.{◌≡◌, ℕ, List, ◌++◌, drop}
use Rattle.iso_model.specs.Rights.{access_in, rights_of, strongest}
use Rattle.iso_model.proofs.rights.Layer.of_marks.Given as goal

abbrev pub invariant-marks : goal.invariant-marks
invariant-marks l = (k : List ℕ) → strongest (rights_of (drop l.mark-index l.marks) k) (access_in (l.layer.entries ++ l.outer) k) ≡ strongest (rights_of l.marks k) (access_in l.outer k)

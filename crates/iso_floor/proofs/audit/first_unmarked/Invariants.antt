use Rattle.std.proofs.Common.{◌≡◌, ◌<◌, ℕ, Some, true, slice_get}
use Rattle.iso_standing.specs.declared.event.Event.TheVariants.{Leave}
use Rattle.iso_floor.specs.Auditing.{is_marked}
use Rattle.iso_floor.proofs.audit.first_unmarked.Given as goal

abbrev pub invariant-loop-n : goal.invariant-loop-n
invariant-loop-n l = (k w : ℕ) → k < l.n → slice_get l.history k ≡ Some (Leave w) → is_marked l.marks k ≡ true

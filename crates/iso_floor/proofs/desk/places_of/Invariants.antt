use Rattle.std.proofs.Common.{◌≡◌, length}
use Rattle.iso_floor.proofs.desk.places_of.Given as goal

abbrev pub invariant-workers : goal.invariant-workers
invariant-workers l = length l.places.items ≡ l.counter

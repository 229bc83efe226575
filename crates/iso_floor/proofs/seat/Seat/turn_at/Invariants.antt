use Rattle.std.proofs.Common.{◌≡◌}
use Rattle.iso_floor.proofs.seat.Seat.turn_at.Given as goal

abbrev pub invariant-tries : goal.invariant-tries
invariant-tries g l = l.self ≡ l.fn.self

use Rattle.iso_floor.specs.Turning.{GoesOnFree}
use Rattle.iso_floor.proofs.work.take_turns.Given as goal

abbrev pub invariant-turns : goal.invariant-turns
invariant-turns g l = GoesOnFree l.next l.seat

use Rattle.std.proofs.Common.{◌≡◌, ◌≤◌, false}
use Rattle.iso_run.proofs.workers.fn.run_seats.scope.Given as goal

abbrev pub invariant-loop-seat : goal.invariant-loop-seat
invariant-loop-seat g l = l.started ≡ false → 2 ≤ l.floor

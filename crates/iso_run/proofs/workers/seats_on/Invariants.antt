use Rattle.std.proofs.Common.{◌<◌, ◌≤◌, length}
use Rattle.iso_run.proofs.workers.seats_on.Given as goal

abbrev pub invariant-loop-worker : goal.invariant-loop-worker
invariant-loop-worker g l = 0 < length l.seats.items → 2 ≤ l.floor

use Rattle.iso_locks.proofs.MoveLemmas.{Moving}
use Rattle.iso_locks.proofs.moves.move_written.Given as goal

abbrev pub invariant-locks : goal.invariant-locks
invariant-locks l = Moving l.initial.there l.initial.here l.locks l.n l.there l.here

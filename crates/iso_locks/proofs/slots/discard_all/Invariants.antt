use Rattle.std.proofs.Common.{vec_len}
use Rattle.iso_locks.proofs.slots.discard_all.Given as goal

abbrev pub decreases-items : goal.decreases-items
decreases-items l = vec_len l.items

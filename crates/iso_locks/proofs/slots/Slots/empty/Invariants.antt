use Rattle.std.proofs.Common.{◌≡◌, None, replicate}
use Rattle.iso_locks.proofs.slots.Slots.empty.Given as goal

abbrev pub invariant-slots : goal.invariant-slots
invariant-slots l = l.slots ≡ replicate l._n None

use Rattle.std.proofs.Common.{◌≡◌, take}
use Rattle.iso_plan.proofs.key_groups.same_locks.Given as goal

abbrev pub invariant-locks : goal.invariant-locks
invariant-locks l = take l.i l.some ≡ take l.i l.others

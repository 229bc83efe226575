use Rattle.std.proofs.Common.{◌≡◌, drop}
use Rattle.std.specs.List.{list_any}
use Rattle.iso_plan.specs.Locks.{is_write}
use Rattle.iso_plan.proofs.lock.takes_write.Given as goal

abbrev pub invariant-locks : goal.invariant-locks
invariant-locks l = list_any is_write (drop l.lock-index l.locks) ≡ list_any is_write l.locks

use Rattle.std.proofs.Common.{◌≡◌, take}
use Rattle.iso_plan.specs.KeyGroups.{on_own}
use Rattle.iso_plan.proofs.key_groups.on_own.Given as goal

abbrev pub invariant-locks : goal.invariant-locks
invariant-locks l = l.kept.items ≡ on_own l.leads (take l.lock-index l.locks)

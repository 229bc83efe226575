use Rattle.std.proofs.Common.{◌≡◌, ◌++◌, drop}
use Rattle.iso_plan.specs.Locks.{locks_from}
use Rattle.iso_plan.proofs.locks.listed.Given as goal

abbrev pub invariant-keys : goal.invariant-keys
invariant-keys l = l.locks.items ++ locks_from l.number (drop l.number l.table) ≡ locks_from 0 l.table

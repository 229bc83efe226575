use Rattle.std.proofs.Common.{◌≡◌, drop}
use Rattle.iso_why.specs.ModeReasons.{first_written}
use Rattle.iso_why.proofs.why.first_written.Given as goal

abbrev pub invariant-locks : goal.invariant-locks
invariant-locks l = first_written (drop l.lock-index l.locks) ≡ first_written l.locks

use Rattle.std.proofs.Common.{◌≤◌}
use Rattle.iso_parts_tests.proofs.locks.vault.away.Given as goal

abbrev pub invariant-loop-key : goal.invariant-loop-key
invariant-loop-key l = l.away ≤ l.key

use Rattle.std.proofs.Common.{◌≡◌, ◌<◌, ℕ, get_or}
use Rattle.iso_plan.proofs.key_groups.are_own.Given as goal

abbrev pub invariant-keys : goal.invariant-keys
invariant-keys l = (k : ℕ) → k < l.key → get_or l.leads k 0 ≡ k

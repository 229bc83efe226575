use Rattle.std.proofs.Common.{◌≡◌, ◌<◌, ℕ}
use Rattle.iso_plan.specs.KeyGroups.{lead}
use Rattle.iso_plan.specs.RowView.{tree_of}
use Rattle.iso_locks.proofs.vault.is_one_group.Given as goal

abbrev pub invariant-keys : goal.invariant-keys
invariant-keys l = (i : ℕ) → 0 < i → i < l.key → lead (tree_of l.plan) i ≡ 1

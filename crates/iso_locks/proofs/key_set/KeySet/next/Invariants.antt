use Rattle.std.proofs.Common.{ℕ, ◌-◌, ◌≡◌, ◌≤◌, ◌<◌, false}
use Rattle.iso_locks.specs.KeySets.{holds}
use Rattle.iso_locks.proofs.key_set.KeySet.next.Given as goal

abbrev pub invariant-words : goal.invariant-words
invariant-words l = record {
  from : l.from ≤ l.at;
  none : (k : ℕ) → l.from ≤ k → k < l.at → holds l.self k ≡ false;
}

abbrev pub decreases-words : goal.decreases-words
decreases-words l = 256 - l.at

use Rattle.std.proofs.Common.{◌≡◌, ◌<◌, ℕ, drop, get_or, length}
use Rattle.iso_plan.proofs.SplitLemmas.{way_after}
use Rattle.iso_plan.specs.KeyGroups.{access_on, way_of}
use Rattle.iso_plan.proofs.key_groups.ways.Given as goal

abbrev pub invariant-locks : goal.invariant-locks
invariant-locks l = record {
  size : length l.ways.items ≡ l.keys;
  rest : (k : ℕ) → k < l.keys → way_after (access_on k (drop l.lock-index l.locks)) (get_or l.ways.items k 0) ≡ way_of (access_on k l.locks);
}

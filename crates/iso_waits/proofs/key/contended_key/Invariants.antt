use Rattle.std.proofs.Common.{◌≡◌, ◌+◌, ◌-◌, ◌≤◌, drop, length}
use Rattle.iso_waits.specs.ContendedKeys.{first_shared}
use Rattle.iso_waits.proofs.key.contended_key.Given as goal

abbrev pub invariant-merge : goal.invariant-merge
invariant-merge l = record {
  place : l.place ≤ length l.locks;
  other : l.other_place ≤ length l.others;
  left : first_shared (drop l.place l.locks) (drop l.other_place l.others) ≡ first_shared l.locks l.others;
}

abbrev pub decreases-merge : goal.decreases-merge
decreases-merge l = (length l.locks - l.place) + (length l.others - l.other_place)

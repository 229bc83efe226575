use Rattle.std.proofs.Common.{◌≡◌, ◌+◌, ◌-◌, ◌≤◌, drop, length}
use Rattle.iso_plan.specs.Conflicts.{conflicts}
use Rattle.iso_plan.proofs.conflict.conflicts.Given as goal

abbrev pub invariant-merge : goal.invariant-merge
invariant-merge l = record {
  place : l.place ≤ length l.some;
  other : l.other_place ≤ length l.others;
  left : conflicts (drop l.place l.some) (drop l.other_place l.others) ≡ conflicts l.some l.others;
}

abbrev pub decreases-merge : goal.decreases-merge
decreases-merge l = (length l.some - l.place) + (length l.others - l.other_place)

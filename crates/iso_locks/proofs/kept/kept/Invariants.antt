use Rattle.std.proofs.Common.{◌≡◌, ◌<◌, ◌≤◌, ◌-◌, ℕ, true, length}
use Rattle.iso_locks.specs.Kept.{AreOf, is_kept, kept_by}
use Rattle.iso_locks.specs.Slots.{has_changed, slot}
use Rattle.iso_locks.proofs.kept.kept.Given as goal

abbrev pub invariant-changed : goal.invariant-changed
invariant-changed l = record {
  within : l.at ≤ length l.values;
  marks : AreOf (kept_by l.rights l.starts l.values) l.marks.items;
  all : (i : ℕ) → i < l.at → has_changed (slot (kept_by l.rights l.starts l.values) i) ≡ true → is_kept l.marks.items i ≡ true;
}

abbrev pub decreases-changed : goal.decreases-changed
decreases-changed l = length l.values - l.at

use Rattle.std.proofs.Common.{◌≡◌, ◌-◌, ◌<◌, ◌≤◌, ℕ, length, true}
use Rattle.iso_interp.specs.Blocks.{is_empty}
use Rattle.iso_lifecycle.specs.Heads.{heads_in}
use Rattle.iso_lifecycle.specs.JobPlaces.{head_at}
use Rattle.iso_lifecycle.proofs.empty_blocks.next_before_each.Given as goal

abbrev pub invariant-classes : goal.invariant-classes
invariant-classes l = record {
  inwards : l.depth ≤ l.next;
  within : l.next ≤ length l.classes;
  empty : (d : ℕ) → l.depth ≤ d → d < l.next → is_empty (head_at (heads_in l.classes) d).before_each ≡ true;
}

abbrev pub decreases-classes : goal.decreases-classes
decreases-classes l = length l.classes - l.next

use Rattle.std.proofs.Common.{◌≡◌, ◌<◌, ◌≤◌, ℕ, true}
use Rattle.iso_interp.specs.Blocks.{is_empty}
use Rattle.iso_lifecycle.specs.Heads.{heads_in}
use Rattle.iso_lifecycle.specs.JobPlaces.{head_at}
use Rattle.iso_lifecycle.proofs.empty_blocks.next_after_each.Given as goal

abbrev pub invariant-classes : goal.invariant-classes
invariant-classes l = record {
  outwards : l.next ≤ l.depth;
  empty : (d : ℕ) → l.next ≤ d → d < l.depth → is_empty (head_at (heads_in l.classes) d).after_each ≡ true;
}

abbrev pub decreases-classes : goal.decreases-classes
decreases-classes l = l.next

use Rattle.std.proofs.Common.{◌≡◌, ℕ, Some, true, is_some, map, replicate}
use Rattle.iso_plan.specs.RowView.{tree_of}
use Rattle.iso_settings.specs.Worlds.{starting_value_in}
use Rattle.iso_store.specs.Histories.{History}
use Rattle.iso_locks.specs.Slots.{slot}
use Rattle.iso_locks.specs.Trays.{key_at}
use Rattle.iso_locks.proofs.vault.values.Given as goal

abbrev pub invariant-keys : goal.invariant-keys
invariant-keys l = record {
  all : map is_some l.values ≡ replicate l.number true;
  start : (i : ℕ) (h : History) → slot l.values i ≡ Some h → h.now ≡ starting_value_in l.world (key_at (tree_of l.plan) i);
}

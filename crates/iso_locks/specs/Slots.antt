-- Slots by number, each with a value that is there or isn't.
use Rattle.std.specs.Prelude.{◌≡◌, ◌≤◌, ℕ, List, [], Option, Some, None, Bool, false, length, not, slice_index_or}
use Rattle.iso_store.specs.Histories.{History, IsEarlier, is_unchanged, start_of}
use Rattle.iso_locks.specs.KeySets.{holds}
use Rattle.iso_locks.specs.declared.key_set.KeySet.{KeySet}

abbrev pub Slots : Type 0
Slots = List (Option History)

-- the value in a slot, if there is one
abbrev pub slot : Slots → ℕ → Option History
slot slots i = slice_index_or slots i None

-- a slot has a value that came from this one by further changes
pub record HasLater (slots : Slots) (i : ℕ) (mark : History) : Type 0 where
  pub now : History
  pub there : slot slots i ≡ Some now
  pub later : IsEarlier mark now

-- whether there is a value, and it is unchanged
abbrev pub has_unchanged : Option History → Bool
has_unchanged None = false
has_unchanged (Some h) = is_unchanged h

-- whether there is a value, and it was changed
abbrev pub has_changed : Option History → Bool
has_changed None = false
has_changed (Some h) = not (is_unchanged h)

-- a value, if there is one, gone back to its start
abbrev pub restarted : Option History → Option History
restarted None = None
restarted (Some h) = Some (record { now = start_of h; past = [] })

-- the numbers of the slots whose values are unchanged, and of those whose values were changed
pub record AreNoted (unchanged changed : KeySet) (slots : Slots) : Type 0 where
  pub few : length slots ≤ 256
  pub unchanged_are : (i : ℕ) → holds unchanged i ≡ has_unchanged (slot slots i)
  pub changed_are : (i : ℕ) → holds changed i ≡ has_changed (slot slots i)

-- What a mark of a tray keeps of values.
--
-- what a mark keeps: Of each value that was changed its moment, with its number (`is_kept`,
-- `AreOf`), and of the others which they are (`KeepsMark`); nothing where no value is there
-- (`KeepsAll`).
use Rattle.std.specs.Prelude.{◌≡◌, ◌≤◌, ◌==◌, ◌||◌, ℕ, List, [], ◌∷◌, length, map, Option, Some, None, Bool, true, false}
use Rattle.iso_locks.specs.KeySets.{holds}
use Rattle.iso_locks.specs.Slots.{Slots, has_changed, has_unchanged, slot}
use Rattle.iso_locks.specs.Trays.{kept_at}
use Rattle.iso_locks.specs.declared.kept.KeptMark.{KeptMark}
use Rattle.iso_locks.specs.declared.key_set.KeySet.{KeySet}
use Rattle.iso_locks.specs.declared.starting.Starting.{Starting}
use Rattle.iso_model.specs.declared.access.Access.{Access}
use Rattle.iso_plan.specs.Paths.{column}

-- whether the value with a number is among those that are kept
abbrev pub is_kept : List KeptMark → ℕ → Bool
is_kept [] i = false
is_kept (k ∷ ks) i = k.number == i || is_kept ks i

-- each value that is kept is that of its slot
abbrev pub AreOf : Slots → List KeptMark → Type 0
AreOf slots [] = Unit {0}
AreOf slots (k ∷ ks) = (slot slots k.number ≡ Some k.mark) × AreOf slots ks

-- the values that rights let be changed, by the keys of these starting values
abbrev pub kept_by : List (List ℕ × Access) → List Starting → Slots → Slots
kept_by rights starts values =
    column (kept_at rights (map (λ (s : Starting). s.key) starts) values) (length values)

-- What a mark has of the slots as they stood then: where a value was unchanged, and of the values
-- that were changed those that the rights let be changed.
pub record KeepsMark (rights : List (List ℕ × Access)) (starts : List Starting) (unchanged : KeySet)
    (marks : List KeptMark) (then : Slots) : Type 0 where
  pub fits : length starts ≡ length then
  pub few : length then ≤ 256
  pub unchanged_are : (i : ℕ) → holds unchanged i ≡ has_unchanged (slot then i)
  pub marks_are : AreOf (kept_by rights starts then) marks
  pub all : (i : ℕ) → has_changed (slot (kept_by rights starts then) i) ≡ true
      → is_kept marks i ≡ true

-- where nothing was kept of slots, none of them had a value
abbrev pub KeepsAll : Option Slots → Slots → Type 0
KeepsAll kept then = kept ≡ None → (i : ℕ) → slot then i ≡ None

-- What contracts see of a vault, and what moves when a node is lent and taken back.
--
-- what is home, lent and taken back: Which values are home; the lowest lent node that conflicts
-- (`busy`); what moves when a node is lent (`lending`, `IsLentTo`) and taken back (`regaining`,
-- `giving_back`).
-- Also in: `Moves`.
use Rattle.std.specs.Prelude.{◌≡◌, ℕ, ◌<◌, List, length, replicate, Option, Some, None, Bool, true, false, ◌||◌, ◌&&◌, not, option_map, slice_index_or, slice_set, refl}
use Rattle.std.specs.Coded.{Coded, code_by, coded×, coded_list, coded_bool}
use Rattle.iso_model.specs.declared.resource.Resource.{Resource}
use Rattle.iso_plan.specs.HeldNodes.{HeldView}
use Rattle.iso_plan.specs.KeyGroups.{lead}
use Rattle.iso_plan.specs.KeyTable.{keys}
use Rattle.iso_plan.specs.Conflicts.{lowest_in_the_way}
use Rattle.iso_plan.specs.Locks.{locks}
use Rattle.iso_plan.specs.Paths.{column}
use Rattle.iso_plan.specs.Planned.{Planned}
use Rattle.iso_plan.specs.RowView.{tree_of}
use Rattle.iso_plan.specs.Tree.{Row}
use Rattle.iso_plan.specs.contracts.plan.Plan as plan
use Rattle.iso_settings.specs.Worlds.{Start, start_code, starting_value_in}
use Rattle.iso_store.specs.Histories.{History}
use Rattle.iso_locks.specs.Clashes.{clash}
use Rattle.iso_locks.specs.Moves.{is_written, moved_away, moved_here}
use Rattle.iso_locks.specs.Owners.{IsOwned}
use Rattle.iso_locks.specs.Slots.{Slots, slot}
use Rattle.iso_locks.specs.Trays.{TrayView, is_lent, key_at}

-- what a vault was made for, the nodes that are lent, by their numbers, and which values are home,
-- by the numbers of their keys. A value that is home stands at its start.
pub record VaultView : Type 0 where
  pub plan : Planned
  pub world : Start
  pub lent : List Bool
  pub home : List Bool

-- a vault is stored as its parts
abbrev Parts : Type 0
Parts = Planned × (Start × (List Bool × List Bool))

abbrev parts : VaultView → Parts
parts v = (v.plan, (v.world, (v.lent, v.home)))

abbrev with_parts : Parts → VaultView
with_parts p = record { plan = p.0; world = p.1.0; lent = p.1.1.0; home = p.1.1.1 }

abbrev parts_code : Coded Parts
parts_code =
    coded× plan.the_row.coded
    (coded× start_code (coded× (coded_list coded_bool) (coded_list coded_bool)))

abbrev pub vault_code : Coded VaultView
vault_code = code_by Parts parts_code parts with_parts (λ _. refl)

-- a vault from which nothing is lent: every value is home
abbrev pub whole_vault : Planned → Start → VaultView
whole_vault plan world =
    record {
      plan = plan;
      world = world;
      lent = replicate (length plan.rows) false;
      home = replicate (length (keys (tree_of plan))) true;
    }

-- whether a value is home
abbrev pub is_home : List Bool → ℕ → Bool
is_home home i = slice_index_or home i false

-- the lowest lent node that conflicts with a node
abbrev pub busy : VaultView → ℕ → Option ℕ
busy v n = lowest_in_the_way (tree_of v.plan) (is_lent v.lent) n

-- a node may be lent to a tray of the same plan and starting values: it is lent neither from the
-- vault nor to the tray, and where no node that is lent from the vault is in its way, it clashes
-- with none that is lent to the tray
pub record CanLend (n : ℕ) (v : VaultView) (t : TrayView) : Type 0 where
  pub node : n < length v.plan.rows
  pub plan : t.plan ≡ v.plan
  pub world : t.world ≡ v.world
  pub free : is_lent v.lent n ≡ false
  pub apart : is_lent t.lent n ≡ false
  pub beside : busy v n ≡ None → (m : ℕ) → is_lent t.lent m ≡ true
      → clash (tree_of t.plan) m n ≡ false

-- the vault when a node was lent: what it takes for READ_WRITE is no longer home
abbrev pub lending : ℕ → VaultView → VaultView
lending n v =
    record v {
      lent = slice_set v.lent n true;
      home = column
          (λ i. not (is_written (locks (tree_of v.plan) n) i) && is_home v.home i) (length v.home);
    }

-- the vault when a node was taken back: what it takes for READ_WRITE is home
abbrev pub regaining : ℕ → VaultView → VaultView
regaining n v =
    record v {
      lent = slice_set v.lent n false;
      home =
          column (λ i. is_written (locks (tree_of v.plan) n) i || is_home v.home i) (length v.home);
    }

-- the value in a slot as it is now
abbrev pub value_in : Slots → ℕ → Option Resource
value_in slots i = option_map (λ (h : History). h.now) (slot slots i)

-- a value stands in a tray where it starts
abbrev pub StandsAtStart : TrayView → ℕ → Type 0
StandsAtStart t i =
    value_in t.values i ≡ Some (starting_value_in t.world (key_at (tree_of t.plan) i))

-- a node was lent to a tray: what it takes for READ_WRITE, which wasn't there, stands there at its
-- start, and no other value moved
pub record IsLentTo (n : ℕ) (old new : TrayView) : Type 0 where
  pub plan : new.plan ≡ old.plan
  pub world : new.world ≡ old.world
  pub flat : new.flat ≡ old.flat
  pub lent : new.lent ≡ slice_set old.lent n true
  pub holds : is_lent new.lent n ≡ true
  pub fits : length new.values ≡ length old.values
  pub fresh : old.flat ≡ false → (i : ℕ) → is_written (locks (tree_of old.plan) n) i ≡ true
      → slot old.values i ≡ None
  pub written : (i : ℕ) → i < length (keys (tree_of old.plan))
      → is_written (locks (tree_of old.plan) n) i ≡ true → StandsAtStart new i
  pub others : (i : ℕ) → is_written (locks (tree_of old.plan) n) i ≡ false → slot new.values i
      ≡ slot old.values i
  pub frames : new.frames ≡ old.frames

-- a tray can give a node back that is lent to it: it is of the same plan and starting values, and
-- holds all that the node takes for READ_WRITE, each at its start
pub record CanTakeBack (n : ℕ) (v : VaultView) (t : TrayView) : Type 0 where
  pub node : n < length v.plan.rows
  pub plan : t.plan ≡ v.plan
  pub world : t.world ≡ v.world
  pub lent : is_lent v.lent n ≡ true
  pub holds : is_lent t.lent n ≡ true
  pub at_start : (i : ℕ) → i < length (keys (tree_of v.plan))
      → is_written (locks (tree_of v.plan) n) i ≡ true → StandsAtStart t i

-- the tray when a node was taken back from it: what the node takes for READ_WRITE is gone, all else
-- stays
abbrev pub giving_back : ℕ → TrayView → TrayView
giving_back n t = record t {
  lent = slice_set t.lent n false;
  values = moved_away (locks (tree_of t.plan) n) t.values;
}

-- the tray when a node was lent to it by a vault with these values
abbrev pub receiving : ℕ → Slots → TrayView → TrayView
receiving n home t = record t {
  lent = slice_set t.lent n true;
  values = moved_here (locks (tree_of t.plan) n) home t.values;
}

-- what holds of the lists that a vault keeps: each value that is home stands at its start, and each
-- other one was lent to a node that takes it for READ_WRITE
pub record IsVault (planned : Planned) (start : Start) (given : List Bool)
    (values : Slots) : Type 0 where
  pub lent_fits : length given ≡ length planned.rows
  pub values_fit : length values ≡ length (keys (tree_of planned))
  pub at_start : (i : ℕ) (h : History) → slot values i ≡ Some h
      → h.now ≡ starting_value_in start (key_at (tree_of planned) i)
  pub away : (i : ℕ) → i < length values → slot values i ≡ None → IsOwned (tree_of planned) given i

-- each node takes all keys but the global one alike, or none of them: the second key leads them
abbrev pub IsOneGroup : List Row → Type 0
IsOneGroup tree = (i : ℕ) → 0 < i → i < length (keys tree) → lead tree i ≡ 1

-- the same of all that it keeps: the nodes that it keeps as held are of its plan, and it knows
-- whether the keys are one group
pub record KeepsVault (planned : Planned) (start : Start) (given : HeldView) (is_one_group : Bool)
    (values : Slots) : Type 0 where
  pub lent_of : given.plan ≡ planned
  pub one_group : is_one_group ≡ true → IsOneGroup (tree_of planned)
  pub lists : IsVault planned start given.held values

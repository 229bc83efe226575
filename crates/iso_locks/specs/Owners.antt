-- Which nodes own the values that a tray holds.
--
-- owners of values: Which lent node owns a value of a tray (`IsOwned`, `AreOwned`), and which nodes
-- no tray holds together (`clash`).
-- Also in: `Clashes`.
use Rattle.std.specs.Prelude.{◌≡◌, ◌≢◌, ◌≤◌, ℕ, List, [], length, map, reverse, Option, Some, None, Bool, true, false, is_some}
use Rattle.iso_locks.specs.Clashes.{clash}
use Rattle.iso_locks.specs.Moves.{is_written}
use Rattle.iso_locks.specs.Slots.{Slots, slot}
use Rattle.iso_locks.specs.Trays.{TrayView, is_lent, start_at}
use Rattle.iso_locks.specs.declared.starting.Starting.{Starting}
use Rattle.iso_lifecycle.specs.Subjects.{Subject, subject}
use Rattle.iso_plan.specs.HeldNodes.{HeldView}
use Rattle.iso_plan.specs.KeyTable.{keys}
use Rattle.iso_plan.specs.Locks.{locks}
use Rattle.iso_plan.specs.NodeChains.{depth}
use Rattle.iso_plan.specs.Paths.{path}
use Rattle.iso_plan.specs.Planned.{Planned}
use Rattle.iso_plan.specs.RowView.{tree_of}
use Rattle.iso_plan.specs.Tree.{Row}
use Rattle.iso_settings.specs.Worlds.{Start}

-- a node that is lent takes the key with a number for READ_WRITE, and so owns its value
pub record IsOwned (tree : List Row) (given : List Bool) (i : ℕ) : Type 0 where
  pub node : ℕ
  pub lent : is_lent given node ≡ true
  pub writes : is_written (locks tree node) i ≡ true

-- What a tray keeps of its values and the nodes that are lent to it: each value is owned, but in a
-- flat map; what a node takes for READ_WRITE is there; and no two nodes clash.
pub record AreOwned (tree : List Row) (flat : Bool) (lent : List Bool)
    (values : Slots) : Type 0 where
  pub owned : flat ≡ false → (i : ℕ) → is_some (slot values i) ≡ true → IsOwned tree lent i
  pub there : (n i : ℕ) → is_lent lent n ≡ true → is_written (locks tree n) i ≡ true
      → is_some (slot values i) ≡ true
  pub apart : (m n : ℕ) → m ≢ n → is_lent lent m ≡ true → is_lent lent n ≡ true
      → clash tree m n ≡ false

-- a node may be lent to a tray beside those that are: it isn't lent to it, and clashes with none of
-- them
pub record CanHold (n : ℕ) (t : TrayView) : Type 0 where
  pub apart : is_lent t.lent n ≡ false
  pub beside : (m : ℕ) → is_lent t.lent m ≡ true → clash (tree_of t.plan) m n ≡ false

-- There is room for `most` frames, and as much to gather them in, where none is but while they are
-- gathered.
pub record HasRoom (most room spare_room : ℕ) (spare : List Subject) : Type 0 where
  pub frames : most ≤ room
  pub gathered : most ≤ spare_room
  pub empty : spare ≡ []

-- the frames that a tray has, where the class is known for which it was handed them last: those of
-- this class and of its enclosing classes, outermost first
abbrev pub AreHanded : Planned → Start → Option ℕ → List Subject → Type 0
AreHanded plan world None frames = Unit {0}
AreHanded plan world (Some class) frames =
    frames ≡ map (subject plan world) (reverse (path (tree_of plan) class))

-- what holds of the lists that a tray keeps, with room for the frames of the deepest class chain
pub record IsTray (plan : Planned) (world : Start) (flat : Bool) (lent : HeldView) (values : Slots)
    (starts : List Starting) (room spare_room : ℕ) (spare : List Subject) (handed : Option ℕ)
    (frames : List Subject) : Type 0 where
  pub lent_of : lent.plan ≡ plan
  pub lent_fits : length lent.held ≡ length plan.rows
  pub values_fit : length values ≡ length (keys (tree_of plan))
  pub starts_are : starts ≡ map (start_at world) (keys (tree_of plan))
  pub has_room : HasRoom (depth (tree_of plan)) room spare_room spare
  pub are_handed : AreHanded plan world handed frames
  pub are_owned : AreOwned (tree_of plan) flat lent.held values

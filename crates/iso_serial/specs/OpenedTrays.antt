-- A tray alone, beside the nodes on one path: which of their values it has, and which opening left
-- what it holds. Nothing here speaks of vault, results or frames.
--
-- a tray on one path: Which nodes are lent to a tray, which values it holds, and which opening has
-- left them (`StandsAsOpened`), or all but what a node may change (`StandsApart`).
use Rattle.std.specs.Prelude.{◌≡◌, ℕ, List, Bool, true, false, length, is_some}
use Rattle.iso_lifecycle.specs.Subjects.{opening_of, rights_of_subject, subject}
use Rattle.iso_lifecycle.specs.WholeBodies.{IsAfterBody}
use Rattle.iso_lifecycle.specs.declared.kind.BodyKind.{BodyKind}
use Rattle.iso_locks.specs.Moves.{is_written}
use Rattle.iso_locks.specs.Slots.{slot}
use Rattle.iso_locks.specs.Trays.{GoesOn, TrayView, content, is_lent, resources}
use Rattle.iso_model.specs.Resources.{Resources}
use Rattle.iso_model.specs.Rights.{is_writable}
use Rattle.iso_plan.specs.Locks.{locks}
use Rattle.iso_plan.specs.Paths.{is_under, parent}
use Rattle.iso_plan.specs.Planned.{Planned}
use Rattle.iso_plan.specs.RowView.{tree_of}
use Rattle.iso_plan.specs.Tree.{Row}
use Rattle.iso_settings.specs.Worlds.{Start}

-- some node on the path of p takes the key with a number for READ_WRITE
pub record IsWrittenOn (tree : List Row) (p i : ℕ) : Type 0 where
  pub node : ℕ
  pub above : is_under tree node p ≡ true
  pub writes : is_written (locks tree node) i ≡ true

-- exactly the nodes on the path of p are lent
pub record AreLentAlong (plan : Planned) (p : ℕ) (lent : List Bool) : Type 0 where
  pub fits : length lent ≡ length plan.rows
  pub along : (m : ℕ) → is_lent lent m ≡ is_under (tree_of plan) m p

-- a tray has the values that the nodes on the path of p take for READ_WRITE, and no other
pub record HoldsAlong (plan : Planned) (world : Start) (p : ℕ) (t : TrayView) : Type 0 where
  pub plan_is : t.plan ≡ plan
  pub world_is : t.world ≡ world
  pub there : (i : ℕ) → IsWrittenOn (tree_of plan) p i → is_some (slot t.values i) ≡ true
  pub only : (i : ℕ) → is_some (slot t.values i) ≡ true → IsWrittenOn (tree_of plan) p i

-- what a tray of a plan and a world holds
abbrev pub held : Planned → Start → TrayView → Resources
held plan world t = resources (tree_of plan) world t.lent t.values

-- what a tray holds stands as the opening of p has left it
abbrev pub IsAsOpened : Planned → Start → ℕ → TrayView → Type 0
IsAsOpened plan world p t =
    (k : List ℕ) → is_some (held plan world t k) ≡ true → held plan world t k
    ≡ (opening_of (subject plan world p)).resources k

-- so does each key that n, a child of p, may not change
abbrev pub IsAsOpenedApart : Planned → Start → ℕ → ℕ → TrayView → Type 0
IsAsOpenedApart plan world p n t =
    (k : List ℕ) → is_writable (rights_of_subject (subject plan world n) k) ≡ false
    → is_some (held plan world t k) ≡ true
    → held plan world t k ≡ (opening_of (subject plan world p)).resources k

-- a tray has what the nodes on the path of n take for READ_WRITE, and all stands as the opening of
-- p has left it: of n, or of its parent
pub record StandsAsOpened (plan : Planned) (world : Start) (n p : ℕ) (t : TrayView) : Type 0 where
  pub holds : HoldsAlong plan world n t
  pub values : IsAsOpened plan world p t

-- a tray has what the nodes on the path of n take for READ_WRITE, and what n may not change stands
-- as its parent's opening has left it
pub record StandsApart (plan : Planned) (world : Start) (n : ℕ) (t : TrayView) : Type 0 where
  pub holds : HoldsAlong plan world n t
  pub values : IsAsOpenedApart plan world (parent (tree_of plan) n) n t

-- a tray before and after a whole body of a node: but for its frames, its values alone were
-- changed, and stand as the body leaves them
pub record IsTrayAfter (plan : Planned) (world : Start) (kind : BodyKind) (n : ℕ)
    (old new : TrayView) : Type 0 where
  pub plan_is : new.plan ≡ old.plan
  pub world_is : new.world ≡ old.world
  pub lent : new.lent ≡ old.lent
  pub onward : GoesOn old new
  pub after : IsAfterBody (subject plan world n) kind (content old) (content new)

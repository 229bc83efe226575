-- Where a worker stands between its bodies: of its tray alone, since nothing else of a run stays as
-- it is while others work.
--
-- a worker between bodies: Where a worker's tray stands: it has no value (`IsFree`); a node was
-- entered and no body of it has begun (`IsAtEntry`); all stands as a class's opening has left it
-- (`IsInside`); what the worker found to do (`IsTurn`), also as it left a node (`IsNextTurn`,
-- `GoesOnFree`); why it goes on no further, and what it is told then (`halt_of`, `cause_of`). No
-- public clause cites it but `cause_of`.
-- Also in: `Turning`, `Halts`.
use Rattle.std.specs.Prelude.{◌≡◌, ℕ, ◌<◌, length, true, false, None}
use Rattle.iso_book.specs.Leaves.{is_last}
use Rattle.iso_book.specs.Turns.{IsEntered, IsShut}
use Rattle.iso_lifecycle.specs.DoneViews.{DoneView}
use Rattle.iso_lifecycle.specs.Subjects.{is_kind_of, opening_of, subject}
use Rattle.iso_lifecycle.specs.WholeBodies.{CanBegin, IsReadyFor}
use Rattle.iso_lifecycle.specs.declared.kind.BodyKind.{BodyKind}
use Rattle.iso_locks.specs.Slots.{slot}
use Rattle.iso_locks.specs.Trays.{GoesOn, TrayView, content, has_value, is_lent}
use Rattle.iso_locks.specs.Vaults.{IsLentTo}
use Rattle.iso_plan.specs.Paths.{IsTree, parent, row_at}
use Rattle.iso_plan.specs.Planned.{Planned}
use Rattle.iso_plan.specs.RowView.{tree_of}
use Rattle.iso_serial.specs.OpenedTrays.{StandsAsOpened}
use Rattle.iso_settings.specs.Worlds.{Start}
use Rattle.iso_standing.specs.UnderWay.{is_after_all}

-- a tray has no value that may be changed
abbrev pub IsFree : TrayView → Type 0
IsFree t = (i : ℕ) → slot t.values i ≡ None

-- a node was entered with a tray that had no value
pub record IsEnteredFree (n : ℕ) (u : TrayView) : Type 0 where
  pub before : TrayView
  pub free : IsFree before
  pub entered : IsEntered n before u

-- a class was shut with a tray that has no value
pub record IsShutFree (n : ℕ) (u : TrayView) : Type 0 where
  pub before : TrayView
  pub free : IsFree before
  pub shut : IsShut n before u

-- the classes around a node were opened well
pub record IsEnclosed (plan : Planned) (start : Start) (n : ℕ) : Type 0 where
  pub tree : IsTree (tree_of plan)
  pub inner : 0 < n
  pub within : n < length plan.rows
  pub well : (opening_of (subject plan start (parent (tree_of plan) n))).well ≡ true

-- a node was entered, and no body of it has begun: all stands as its parent's opening has left it
pub record IsAtEntry (plan : Planned) (start : Start) (n : ℕ) (t : TrayView) : Type 0 where
  pub enclosed : IsEnclosed plan start n
  pub lent : is_lent t.lent n ≡ true
  pub begins : (kind : BodyKind) → is_after_all kind ≡ false → is_kind_of kind
      (row_at (tree_of plan) n).kind ≡ true → CanBegin (subject plan start n) kind t.frames
  pub tray : StandsAsOpened plan start n (parent (tree_of plan) n) t

-- between two nodes that stand directly in a class: all stands as the class's opening has left it
pub record IsInside (plan : Planned) (start : Start) (p : ℕ) (t : TrayView) : Type 0 where
  pub tree : IsTree (tree_of plan)
  pub within : p < length plan.rows
  pub tray : StandsAsOpened plan start p p t

-- a body of a node can be done: its frames are there, and its keys stand as the openings before it
-- have left them
pub record CanPerform (plan : Planned) (start : Start) (kind : BodyKind) (n : ℕ)
    (t : TrayView) : Type 0 where
  pub begins : CanBegin (subject plan start n) kind t.frames
  pub ready : IsReadyFor (subject plan start n) kind (content t) (has_value t)

-- what the last body of a node came to
pub record IsLastOf (plan : Planned) (start : Start) (n : ℕ) (d : DoneView) : Type 0 where
  pub subject_is : d.subject ≡ subject plan start n
  pub last : is_last d.kind ≡ true

-- values that a tray had before a node was lent to it were only changed further
abbrev pub FurtherFromEntry : Planned → Start → ℕ → TrayView → TrayView → Type 0
FurtherFromEntry plan start n entry end =
    (before : TrayView) → StandsAsOpened plan start (parent (tree_of plan) n)
    (parent (tree_of plan) n) before → IsLentTo n before entry → GoesOn before end

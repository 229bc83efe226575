-- What an event asks of the tray that its worker brings, and how book and tray stand after it.
--
-- what an event asks of a tray: That it is the book's (`IsOwn`), and that the node may be entered
-- with it (`MayEnterWith`) or goes on with it (`GoesOnWith`); how book and tray stand after an
-- event that was taken, and after one that wasn't (`IsTaken`, `IsNotTaken`, `IsEntered`, `IsShut`).
use Rattle.std.specs.Prelude.{◌≡◌, ◌<◌, ℕ, List, [], ◌∷◌, length, map, reverse, Option, Some, None, Bool, true, false, ◌||◌, ◌&&◌, not}
use Rattle.iso_book.specs.Books.{BookView, refusal_in, with_event}
use Rattle.iso_isolation.specs.Refusals as Why
use Rattle.iso_lifecycle.specs.Subjects.{Subject, is_kind_of, started, subject}
use Rattle.iso_lifecycle.specs.WholeBodies.{CanBegin}
use Rattle.iso_lifecycle.specs.declared.kind.BodyKind.{BodyKind}
use Rattle.iso_lifecycle.specs.declared.kind.BodyKind.TheVariants.{AfterAll}
use Rattle.iso_locks.specs.Owners.{CanHold}
use Rattle.iso_locks.specs.Trays.{TrayView, content, holds_read, is_lent}
use Rattle.iso_locks.specs.Vaults.{IsLentTo}
use Rattle.iso_plan.specs.Locks.{takes_write}
use Rattle.iso_plan.specs.Paths.{parent, path, row_at}
use Rattle.iso_plan.specs.RowView.{tree_of}
use Rattle.iso_standing.specs.CodeEvents.{refused_of}
use Rattle.iso_standing.specs.UnderWay.{is_after_all}
use Rattle.iso_standing.specs.declared.refused.CoreFault.{CoreFault}
use Rattle.iso_standing.specs.declared.refused.CoreFault.TheVariants as F
use Rattle.iso_standing.specs.declared.event.Event.{Event}

-- whether each of these nodes that takes a key for READ_WRITE is lent to a tray
abbrev pub holds_writers : TrayView → List ℕ → Bool
holds_writers t [] = true
holds_writers t (n ∷ ns) = (not (takes_write (tree_of t.plan) n) || is_lent t.lent n)
    && holds_writers t ns

-- whether a tray has what is around a node: it is no flat map, and what the classes around the node
-- take for READ_WRITE is lent to it
abbrev pub has_around : TrayView → ℕ → Bool
has_around t n = not t.flat && holds_writers t (path (tree_of t.plan) (parent (tree_of t.plan) n))

-- a tray is a book's, for what a node does: it is of the same plan and starting values, and has
-- what is around the node
pub record IsOwn (b : BookView) (n : ℕ) (t : TrayView) : Type 0 where
  pub plan : t.plan ≡ b.plan
  pub world : t.world ≡ b.world
  pub around : has_around t n ≡ true

-- a node may be entered with a tray: it is the book's, and the node may be lent to it beside those
-- that are
pub record MayEnterWith (b : BookView) (n : ℕ) (t : TrayView) : Type 0 where
  pub own : IsOwn b n t
  pub holds : CanHold n t

-- a node that was entered goes on with a tray, by a Shut or a Leave: it is the book's, and the node
-- is lent to it
pub record GoesOnWith (b : BookView) (n : ℕ) (t : TrayView) : Type 0 where
  pub own : IsOwn b n t
  pub lent : is_lent t.lent n ≡ true

-- Why an event is refused that asks something of a tray: by the first kind of the state machine
-- that applies; where none does, it is a stranger's, for it isn't as asked.
abbrev pub IsRefusedBy : Option Why.Refused → Type 0 → Why.Refused → Type 0
IsRefusedBy (Some kind) asked why = why ≡ kind
IsRefusedBy None asked why = (why ≡ Why.Stranger) × (asked → ⊥)

-- nothing refuses an event, and the tray is as asked
pub record IsAllowed (kind : Option Why.Refused) (asked : Type 0) : Type 0 where
  pub allowed : kind ≡ None
  pub tray : asked

-- why an event wasn't taken: it was refused; or nothing refuses it and memory was wanted
abbrev pub IsFaultOf : Option Why.Refused → Type 0 → CoreFault → Type 0
IsFaultOf kind asked (F.Refused why) = IsRefusedBy kind asked (refused_of why)
IsFaultOf kind asked F.OutOfMemory = IsAllowed kind asked

-- an event was taken: nothing refuses it, the tray is as asked, and the book has this one event
-- more
pub record IsTaken (e : Event) (asked : Type 0) (b c : BookView) : Type 0 where
  pub is_allowed : IsAllowed (refusal_in b e) asked
  pub book : c ≡ with_event b e

-- an event wasn't taken, and neither the book nor the tray has changed
pub record IsNotTaken (fault : CoreFault) (e : Event) (asked : Type 0) (b c : BookView)
    (t u : TrayView) : Type 0 where
  pub why : IsFaultOf (refusal_in b e) asked fault
  pub book : c ≡ b
  pub tray : u ≡ t

-- the frames of a class and of its enclosing classes, outermost first, and a tray that was
-- handed these in place of others
abbrev pub frames_of : TrayView → ℕ → List Subject
frames_of t class = map (subject t.plan t.world) (reverse (path (tree_of t.plan) class))

abbrev pub handed : TrayView → ℕ → TrayView
handed t class = record t { frames = frames_of t class }

-- each body with which a node is entered may begin with the frames of a tray
abbrev pub BeginsIn : ℕ → TrayView → Type 0
BeginsIn n t = (kind : BodyKind) → is_after_all kind ≡ false
    → is_kind_of kind (row_at (tree_of t.plan) n).kind ≡ true
    → CanBegin (subject t.plan t.world n) kind t.frames

-- a tray shows of each key that a node holds for READ the starting value
abbrev pub ReadsStart : ℕ → TrayView → Type 0
ReadsStart n t = (k : List ℕ) → holds_read (tree_of t.plan) k n ≡ true
    → content t k ≡ started t.world k

-- A tray after the Enter of a node: it had what is around the node, the frames of the classes
-- around the node were handed to it, and the node is lent to it; the node's body may begin, and
-- what the node holds for READ stands at its start, as what it takes for READ_WRITE does.
pub record IsEntered (n : ℕ) (t u : TrayView) : Type 0 where
  pub inner : 0 < n
  pub within : n < length t.plan.rows
  pub around : has_around t n ≡ true
  pub lent : IsLentTo n (handed t (parent (tree_of t.plan) n)) u
  pub begins : BeginsIn n u
  pub reads : ReadsStart n u

-- a tray after the Shut of a class: it had what is around the class, the class's frame and those of
-- the classes around it were handed to it, all else is as it was; the class is lent to it, and its
-- `after_all` may begin
pub record IsShut (n : ℕ) (t u : TrayView) : Type 0 where
  pub around : has_around t n ≡ true
  pub tray : u ≡ handed t n
  pub lent : is_lent u.lent n ≡ true
  pub begins : CanBegin (subject u.plan u.world n) AfterAll u.frames

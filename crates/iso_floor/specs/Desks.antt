-- What contracts see of a desk, and what its scheduler says truly of its book.
--
-- desk: A book with its scheduler (`DeskView`), of which the marks of leads are those of the keys
-- that the book's held nodes take (`held_nodes`, `AreMarksOf`), each node in a line of a key takes
-- that key, which is a lead, with the line's access, each node in a line is the party's, and each
-- node that is with a worker, open or over is so in the book, as who has opened up a class is its
-- owner there (`IsAt`, `IsEnteredBy`, `AreOwners`), while none that is Closed is held (`AreClosed`,
-- `IsDesk`); that a class is open for a worker (`IsOpenFor`); that a worker could enter no node
-- that stands in a line, and none that was entered (`CanEnterNone`), and shut no class of its own
-- line (`CanShutNone`); that each worker that is named is one of the floor's (`AreWorkers`); what is
-- left of a run that sleeps (`IsAsleep`, `IsEnterLeft`, `IsShutLeft`); that a node
-- that is Closed, or stands in a line of a key, was never entered (`AreUntouched`). No public clause
-- cites it.
-- Also in: `Asleep`, `Untouched`.
use Rattle.std.specs.Prelude.{◌≡◌, ◌≢◌, ◌<◌, ℕ, List, Option, Some, Bool, true, false, None, ◌||◌, length}
use Rattle.iso_book.specs.Books.{BookView, refusal_in, state_in}
use Rattle.iso_book.specs.Progress.{owner_in, phase_in}
use Rattle.iso_desk.specs.Marking.{has}
use Rattle.iso_desk.specs.Places.{IsEmpty, StandsIn, place_of}
use Rattle.iso_desk.specs.declared.line.KeyLine.{KeyLine}
use Rattle.iso_desk.specs.declared.line.Line.{Line}
use Rattle.iso_desk.specs.declared.line.Line.TheVariants.{Key, Own}
use Rattle.iso_desk.specs.declared.line.Party.TheVariants.{Everyone, Worker}
use Rattle.iso_desk.specs.declared.place.Place.{Place}
use Rattle.iso_desk.specs.declared.place.Place.TheVariants.{Closed, Loose, InLine, With, Open, Over}
use Rattle.iso_floor.specs.Grounds.{IsBookOf}
use Rattle.iso_floor.specs.KeyMarks.{KeysView, is_taken}
use Rattle.iso_floor.specs.Parties.{StandRightly, owner_of}
use Rattle.iso_floor.specs.Postings.{ArePosted, ComesLater}
use Rattle.iso_floor.specs.Schedulers.{IsFor, SchedulerView, WaitRightly, is_entered}
use Rattle.iso_isolation.specs.States.{is_held}
use Rattle.iso_model.specs.declared.access.Access.TheVariants.{Read, Write}
use Rattle.iso_plan.specs.KeyGroups.{is_lead}
use Rattle.iso_plan.specs.Paths.{column}
use Rattle.iso_plan.specs.Planned.{Planned}
use Rattle.iso_plan.specs.RowView.{tree_of}
use Rattle.iso_settings.specs.Worlds.{Start}
use Rattle.iso_standing.specs.Phases.{bare}
use Rattle.iso_standing.specs.declared.event.Event.TheVariants.{Enter}
use Rattle.iso_standing.specs.declared.phase.Phase.TheVariants as Phases

-- the book, and where its nodes stand
pub record DeskView : Type 0 where
  pub book : BookView
  pub scheduler : SchedulerView

-- of each node of a book, by its number, whether it is held
abbrev pub held_nodes : BookView → List Bool
held_nodes b = column (λ n. is_held ((state_in b).nodes.status n)) (length b.plan.rows)

-- the marks of leads are those of the keys that the held nodes of a book take
pub record AreMarksOf (b : BookView) (v : KeysView) : Type 0 where
  pub written : (k : ℕ) → k < 256 → is_lead (tree_of b.plan) k ≡ true → has v.written k
      ≡ is_taken (tree_of b.plan) (held_nodes b) Write k
  pub held : (k : ℕ) → k < 256 → is_lead (tree_of b.plan) k ≡ true → has v.held k
      ≡ (is_taken (tree_of b.plan) (held_nodes b) Write k
      || is_taken (tree_of b.plan) (held_nodes b) Read k)

-- a node of a book has come so far that it may have a place: with a worker it is held and that
-- worker's, as an open class it is open, and who is over is finished
abbrev pub IsAt : BookView → ℕ → Place → Type 0
IsAt b n Closed = Unit {0}
IsAt b n Loose = Unit {0}
IsAt b n (InLine s) = Unit {0}
IsAt b n (With w) = (is_held (bare (phase_in b n)) ≡ true) × (owner_in b n ≡ w)
IsAt b n Open = phase_in b n ≡ Phases.Open
IsAt b n Over = phase_in b n ≡ Phases.Finished

-- a node of a book was entered by a worker
pub record IsEnteredBy (b : BookView) (n w : ℕ) : Type 0 where
  pub within : n < length b.plan.rows
  pub phase : phase_in b n ≢ Phases.Waiting
  pub owner : owner_in b n ≡ w

-- a class of a book is open there, and a worker's, which is one of the book's
pub record IsOpenFor (b : BookView) (n w : ℕ) : Type 0 where
  pub within : n < length b.plan.rows
  pub phase : phase_in b n ≡ Phases.Open
  pub owner : owner_in b n ≡ w
  pub worker : w < b.workers

-- each class that was opened up was entered in the book by who opened it up
abbrev pub AreOwners : BookView → List (Option ℕ) → Type 0
AreOwners b owners = (n w : ℕ) → owner_of owners n ≡ Some w → IsEnteredBy b n w

-- no node that is Closed is held in the book, nor is it the root
abbrev pub AreClosed : BookView → List Place → Type 0
AreClosed b places = (n : ℕ) → n < length b.plan.rows → place_of places n ≡ Closed
    → (n ≢ 0) × (is_held ((state_in b).nodes.status n) ≡ false)

-- What every desk is: the book is of its ground, the scheduler is for its nodes and workers, the
-- marks of leads are those of the keys that the book's held nodes take, each node in a line of a
-- key takes that key, which is a lead, with the line's access, each node has come so far that it
-- may have its place, each node in a line is the party's, who has opened up a class is its owner,
-- no node that is Closed is held, and where there are workers the CONCURRENT children of each open
-- class were posted.
pub record IsDesk (plan : Planned) (start : Start) (workers : ℕ) (b : BookView)
    (s : SchedulerView) : Type 0 where
  pub book : IsBookOf plan start workers b
  pub scheduler : IsFor (length plan.rows) workers s
  pub marks : AreMarksOf b s.keys
  pub lines : WaitRightly plan.rows s.table.places
  pub places : (n : ℕ) → IsAt b n (place_of s.table.places n)
  pub stands : StandRightly plan s.owners s.table.places
  pub owners : AreOwners b s.owners
  pub closed : AreClosed b s.table.places
  pub posted : 0 < workers → ArePosted plan s.table.places

-- A worker could enter nothing that waits: nobody stands in its own line, and the book refuses it
-- each node that stands in a line of a key, of the worker's own or of everyone's, each that stands
-- in any line, and each that has the place of one that was entered. What is left is Loose, or it is
-- Closed and comes later.
pub record CanEnterNone (d : DeskView) (w : ℕ) : Type 0 where
  pub own : IsEmpty d.scheduler.table.places (Own w)
  pub alone : (n : ℕ) (l : KeyLine) → l.party ≡ Worker w
      → StandsIn d.scheduler.table.places (Key l) n → refusal_in d.book (Enter w n) ≢ None
  pub others : (n : ℕ) (l : KeyLine) → l.party ≡ Everyone
      → StandsIn d.scheduler.table.places (Key l) n → refusal_in d.book (Enter w n) ≢ None
  pub elsewhere : (n : ℕ) (l : Line) → StandsIn d.scheduler.table.places l n
      → refusal_in d.book (Enter w n) ≢ None
  pub entered : (n : ℕ) → is_entered (place_of d.scheduler.table.places n) ≡ true
      → refusal_in d.book (Enter w n) ≢ None
  pub closed : (n : ℕ) → place_of d.scheduler.table.places n ≡ Closed
      → refusal_in d.book (Enter w n) ≡ None → ComesLater d.book.plan d.scheduler.table.places n

-- What a book under the lock of a floor has answered. Outside of the lock nobody can name that
-- book: what is known is that there was one.
--
-- answer of a floor: That something is so of some book of a plan, start and workers, whose history
-- in full is a run (`OfSomeBook`): it takes an event of a seat's worker, or doesn't, and why
-- (`TakesEnter`, `RefusesEnter` and those of Shuts and Leaves); whether a seat has room for a
-- receipt more (`HasRoom`, `IsFull`); whether a wait for a change ends, and what it answers
-- (`has_changed`, `EndsWait`).
use Rattle.std.specs.Prelude.{◌≡◌, ◌<◌, ◌≤◌, ℕ, Bool, ◌||◌, length, nat_lt, true}
use Rattle.iso_book.specs.Books.{BookView, is_complete, refusal_in, suite_in}
use Rattle.iso_book.specs.Leaves.{leave_refusal_in}
use Rattle.iso_book.specs.Turns.{GoesOnWith, IsAllowed, IsFaultOf, IsRefusedBy, MayEnterWith}
use Rattle.iso_isolation.specs.Histories.{IsHistory}
use Rattle.iso_lifecycle.specs.DoneViews.{DoneView}
use Rattle.iso_plan.specs.Planned.{Planned}
use Rattle.iso_settings.specs.Worlds.{Start}
use Rattle.iso_standing.specs.CodeEvents.{events_of, refused_of}
use Rattle.iso_standing.specs.declared.refused.CoreFault.{CoreFault}
use Rattle.iso_standing.specs.declared.event.Event.TheVariants.{Enter, Shut}
use Rattle.iso_standing.specs.declared.refused.Refused.{Refused}
use Rattle.iso_suites.specs.ScriptLanguage.{scripts}
use Rattle.iso_floor.specs.Grounds.{IsBookOf}
use Rattle.iso_floor.specs.Seats.{SeatView}

-- the history of a book in full is a run of its plan and starting values on its workers
abbrev pub HasRun : BookView → Type 0
HasRun b = IsHistory scripts (suite_in b) b.workers (events_of b.history)

-- something is so of some book of a plan and starting values on some number of workers, whose
-- history in full is a run
pub record OfSomeBook (plan : Planned) (start : Start) (workers : ℕ)
    (is_so : BookView → Type 0) : Type 0 where
  pub book : BookView
  pub ground : IsBookOf plan start workers book
  pub run : HasRun book
  pub answer : is_so book

-- a book takes the Enter of a node by a seat's worker: nothing refuses it, and the seat's tray is
-- the book's
abbrev pub TakesEnter : SeatView → ℕ → BookView → Type 0
TakesEnter s n b = IsAllowed (refusal_in b (Enter s.worker n)) (MayEnterWith b n s.tray)

-- a book doesn't take it: by the first kind of refusal that applies, or for lack of memory where
-- none does
abbrev pub RefusesEnter : SeatView → ℕ → CoreFault → BookView → Type 0
RefusesEnter s n fault b =
    IsFaultOf (refusal_in b (Enter s.worker n)) (MayEnterWith b n s.tray) fault

-- the same of a Shut
abbrev pub TakesShut : SeatView → ℕ → BookView → Type 0
TakesShut s n b = IsAllowed (refusal_in b (Shut s.worker n)) (GoesOnWith b n s.tray)

abbrev pub RefusesShut : SeatView → ℕ → CoreFault → BookView → Type 0
RefusesShut s n fault b = IsFaultOf (refusal_in b (Shut s.worker n)) (GoesOnWith b n s.tray) fault

-- the same of a Leave, which wants no memory
abbrev pub TakesLeave : SeatView → DoneView → BookView → Type 0
TakesLeave s d b = IsAllowed (leave_refusal_in b s.worker d) (GoesOnWith b d.subject.node s.tray)

abbrev pub RefusesLeave : SeatView → DoneView → Refused → BookView → Type 0
RefusesLeave s d kind b = IsRefusedBy (leave_refusal_in b s.worker d)
    (GoesOnWith b d.subject.node s.tray) (refused_of kind)

-- whether a seat has room for a receipt more
abbrev pub HasRoom : SeatView → Type 0
HasRoom s = length s.receipts < s.room

abbrev pub IsFull : SeatView → Type 0
IsFull s = s.room ≤ length s.receipts

-- whether the history of a book is longer than was seen, or its run stopped or complete
abbrev pub has_changed : ℕ → BookView → Bool
has_changed seen b = nat_lt seen (length b.history) || (b.stopped || is_complete b)

-- a wait for a change may end at a book, and answer `count` events: the history has as many,
-- and has changed since `seen` of them were seen
pub record EndsWait (seen count : ℕ) (b : BookView) : Type 0 where
  pub changed : has_changed seen b ≡ true
  pub counted : length b.history ≡ count

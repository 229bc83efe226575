-- What a worker finds to do.
use Rattle.std.specs.Prelude.{◌≡◌, Option, MatchOption}
use Rattle.iso_book.specs.Leaves.{after_leave}
use Rattle.iso_book.specs.Turns.{IsEntered, IsShut}
use Rattle.iso_floor.specs.Seats.{SeatView}
use Rattle.iso_lifecycle.specs.DoneViews.{DoneView}
use Rattle.iso_floor.specs.Workers.{IsFree}
use Rattle.iso_floor.specs.declared.turn.Turn.{Turn}
use Rattle.iso_floor.specs.declared.turn.Turn.TheVariants.{Entered, Shut, Wait, Finished, Halted}

-- a worker's seat before and after it looked for something to do: a node was entered or a class was
-- shut with its tray, or the seat is as it was
abbrev pub IsTurn : Turn → SeatView → SeatView → Type 0
IsTurn (Entered n) old new = IsEntered n old.tray new.tray
IsTurn (Shut n) old new = IsShut n old.tray new.tray
IsTurn Wait old new = new ≡ old
IsTurn Finished old new = new ≡ old
IsTurn (Halted halt) old new = new ≡ old

-- a worker's seat before and after it left a body, and looked then for something to do, if it did
pub record IsNextTurn (d : DoneView) (next : Option Turn) (old new : SeatView) : Type 0 where
  pub left : SeatView
  pub tray : left.tray ≡ after_leave d.kind d.subject.node old.tray
  pub found : MatchOption next (new ≡ left) (λ turn. IsTurn turn left new)

-- a worker's seat whose tray has no value, or had none before the worker found this to do
pub record GoesOnFree (next : Option Turn) (seat : SeatView) : Type 0 where
  pub before : SeatView
  pub free : IsFree before.tray
  pub found : MatchOption next (seat ≡ before) (λ turn. IsTurn turn before seat)

-- What a worker found to do whose tray had no value.
use Rattle.std.proofs.Common.{◌≡◌, ℕ, None, Some, Option, refl, sym, subst}
use Rattle.iso_floor.specs.Seats.{SeatView}
use Rattle.iso_floor.specs.Turning.{GoesOnFree, IsTurn}
use Rattle.iso_floor.specs.Workers.{IsEnteredFree, IsFree, IsShutFree}
use Rattle.iso_floor.specs.declared.turn.Turn.{Turn}
use Rattle.iso_floor.specs.declared.turn.Turn.TheVariants.{Entered, Shut}

pub stays-free : (s : SeatView) → IsFree s.tray → GoesOnFree None s
stays-free s free = record { before = s; free = free; found = refl }

pub found-free : (next : Option Turn) (t : Turn) (s : SeatView) → next ≡ Some t → GoesOnFree next s → GoesOnFree (Some t) s
found-free next t s e g = subst (λ (o : Option Turn). GoesOnFree o s) e g

pub turned-free : (next : Option Turn) (t : Turn) (s u : SeatView) → next ≡ None → GoesOnFree next s → IsTurn t s u → GoesOnFree (Some t) u
turned-free next t s u e g turn =
    let none : GoesOnFree None s = subst (λ (o : Option Turn). GoesOnFree o s) e g in
    record { before = s; free = subst (λ (v : SeatView). IsFree v.tray) (sym none.found) none.free; found = turn }

module _ (t : Turn) (s : SeatView) (g : GoesOnFree (Some t) s) where
  pub entered-now : (n : ℕ) → t ≡ Entered n → IsEnteredFree n s.tray
  entered-now n e =
      let found : IsTurn (Entered n) g.before s = subst (λ (u : Turn). IsTurn u g.before s) e g.found in
      record { before = g.before.tray; free = g.free; entered = found }

  pub shut-now : (n : ℕ) → t ≡ Shut n → IsShutFree n s.tray
  shut-now n e =
      let found : IsTurn (Shut n) g.before s = subst (λ (u : Turn). IsTurn u g.before s) e g.found in
      record { before = g.before.tray; free = g.free; shut = found }

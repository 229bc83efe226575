-- What was written, of which a fact is known.
use Rattle.std.specs.Prelude.{ℕ, List, Ok}
use Rattle.iso_tap.specs.Printers.{Prints}
use Rattle.iso_tap.specs.Sinks.{Account, Wrote}
use Rattle.iso_tap.specs.declared.printer.Printer.{Printer}
use Rattle.iso_tap.specs.declared.sink.Sink.{Ghosts}

-- a text of which this holds was printed
pub record IsPrinted {W : Type 0} {g : Ghosts W} (IsText : List ℕ → Type 0)
    (old new : Printer W g) : Type 0 where
  pub text : List ℕ
  pub is : IsText text
  pub printed : Prints old new text (Ok tt)

-- a text of which this holds was written
pub record IsWritten (IsText : List ℕ → Type 0) (old new : Account) : Type 0 where
  pub text : List ℕ
  pub is : IsText text
  pub wrote : Wrote old new text

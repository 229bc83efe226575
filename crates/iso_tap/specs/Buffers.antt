-- Printers with a buffer: what they took of a text.
use Rattle.std.specs.Prelude.{◌≡◌, ℕ, List, ◌++◌, Result, Ok, OnOk, OnErr}
use Rattle.iso_tap.specs.Printers.{Prints}
use Rattle.iso_tap.specs.declared.buffered.BufferedPrinter.{BufferedPrinter}
use Rattle.iso_tap.specs.declared.printer.Printer.{Printer}
use Rattle.iso_tap.specs.declared.sink.Sink.{Ghosts}
use Rattle.iso_tap.specs.declared.sink.SinkFailed.{SinkFailed}

-- the printer without its buffer
abbrev pub printer_of : {W : Type 0} {g : Ghosts W} → BufferedPrinter W g → Printer W g
printer_of b = record { sink = b.sink; written = b.written; countable = b.countable }

-- of what the buffer held and of the text after it, the beginning was written, and the rest is held
pub record Holds {W : Type 0} {g : Ghosts W} (old new : BufferedPrinter W g)
    (text : List ℕ) : Type 0 where
  pub written : List ℕ
  pub printed : Prints (printer_of old) (printer_of new) written (Ok tt)
  pub held : old.held.items ++ text ≡ written ++ new.held.items

-- a printer with a buffer took this text; or the sink failed once, was asked nothing more, and the
-- beginning was written of what the buffer held and of the text after it
pub record Buffers {W : Type 0} {g : Ghosts W} (old new : BufferedPrinter W g) (text : List ℕ)
    (result : Result (Unit {0}) SinkFailed) : Type 0 where
  pub kept : OnOk result (Holds old new text)
  pub cut : OnErr result (Prints (printer_of old) (printer_of new) (old.held.items ++ text) result)

-- Printers: what they wrote of a text.
--
-- a printer's answer: A text written whole, or its beginning where the sink failed, once (`Writes`,
-- `Prints`).
-- Also in: `Pieces`.
use Rattle.std.specs.Prelude.{◌≡◌, ℕ, ◌+◌, ◌<◌, List, length, take, Result, Ok, Err, OnOk, OnErr, IfErr}
use Rattle.iso_tap.specs.Sinks.{Account, Took, Wrote, CutOff, HasFailed}
use Rattle.iso_tap.specs.declared.printer.Printer.{Printer}
use Rattle.iso_tap.specs.declared.sink.Sink.{Ghosts}
use Rattle.iso_tap.specs.declared.sink.SinkFailed.{SinkFailed}
use Rattle.iso_tap.specs.declared.fault.TapFault.{TapFault}

-- the printer wrote this text to its sink; or the sink failed once, was asked nothing more, and the
-- beginning of the text was written
pub record Prints {W : Type 0} {g : Ghosts W} (old new : Printer W g) (text : List ℕ)
    (result : Result (Unit {0}) SinkFailed) : Type 0 where
  pub sink : new.sink.ghost_name ≡ old.sink.ghost_name
  pub wrote : OnOk result (Wrote (g.account old.sink.now) (g.account new.sink.now) text)
  pub cut : OnErr result (CutOff (g.account old.sink.now) (g.account new.sink.now) text)
  pub counted : new.written + (g.account old.sink.now).count
      ≡ old.written + (g.account new.sink.now).count

-- an answer without what it tells beside
abbrev pub only : {A : Type 0} → Result A SinkFailed → Result (Unit {0}) SinkFailed
only (Ok x) = Ok tt
only (Err failed) = Err failed

-- the sink took this text and didn't fail; or it failed once, was asked nothing more, and took the
-- first bytes of the text, as many as the fault says and not all
pub record Writes (old new : Account) (text : List ℕ)
    (result : Result (Unit {0}) TapFault) : Type 0 where
  pub wrote : OnOk result (Wrote old new text)
  pub took : IfErr result (λ f. Took old new (take f.written text))
  pub cut : IfErr result (λ f. f.written < length text)
  pub failed : OnErr result (HasFailed old.failures new.failures)

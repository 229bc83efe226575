-- What the bytes of a schedule are read as: the events of its lines, or its first fault.
--
-- reading of a schedule: The lines of the bytes by `str::lines`; their events in order, empty lines
-- left out (`HaveEvents`), or the first wrong line (`HaveFault`); above the limit one fault
-- (`AreRead`); a reader's error is a fault or out of memory (`ScheduleError`).
use Rattle.std.specs.Global.{Global}
use Rattle.std.specs.Prelude.{ℕ, ◌+◌, ◌<◌, ◌≤◌, List, [], ◌∷◌, Result, Ok, Err, Vec, length}
use Rattle.std.specs.Str.Lines.{lines}
use Rattle.iso_model.specs.declared.limits.TheConstants.{FILE_BYTES}
use Rattle.iso_schedule.specs.Lines.{IsEvent, IsWrong}
use Rattle.iso_standing.specs.declared.event.Event.{Event}
use Rattle.iso_model.specs.declared.input_error.InputError.{InputError}
use Rattle.iso_model.specs.declared.input_error.InputError.TheVariants.{Fault, OutOfMemory}
use Rattle.iso_schedule.specs.declared.fault.ScheduleFault.{ScheduleFault}
use Rattle.iso_schedule.specs.declared.fault.ScheduleFaultKind.{ScheduleFaultKind}
use Rattle.iso_schedule.specs.declared.fault.ScheduleFaultKind.TheVariants.{TooLong}

-- the events of lines, in their order: an empty line has none
pub data HaveEvents : List (List ℕ) → List Event → Type 0 where
  no_line : HaveEvents [] []
  empty_line : {ls : List (List ℕ)} {es : List Event} → HaveEvents ls es → HaveEvents ([] ∷ ls) es
  event_line : {l : List ℕ} {e : Event} {ls : List (List ℕ)} {es : List Event}
      → IsEvent l e → HaveEvents ls es → HaveEvents (l ∷ ls) (e ∷ es)

-- the first wrong line of those from a number on
pub data HaveFault : (number : ℕ) → List (List ℕ) → ScheduleFault → Type 0 where
  this_line : {n : ℕ} {l : List ℕ} {kind : ScheduleFaultKind} {ls : List (List ℕ)}
      → IsWrong l kind → HaveFault n (l ∷ ls) (record { kind = kind; line = n })
  after_empty_line : {n : ℕ} {ls : List (List ℕ)} {f : ScheduleFault} → HaveFault (n + 1) ls f
      → HaveFault n ([] ∷ ls) f
  after_event_line : {n : ℕ} {l : List ℕ} {e : Event} {ls : List (List ℕ)} {f : ScheduleFault}
      → IsEvent l e → HaveFault (n + 1) ls f → HaveFault n (l ∷ ls) f

-- why a schedule could not be read
abbrev pub ScheduleError : Type 0
ScheduleError = InputError ScheduleFault

-- events, or a fault
abbrev pub Reading : Type 0
Reading = Result (List Event) ScheduleFault

-- What bytes are read as. Their lines are those of Rust's `str::lines`: a line loses one carriage
-- return before its line feed.
pub data AreRead (bytes : List ℕ) : Reading → Type 0 where
  too_long : FILE_BYTES < length bytes → AreRead bytes (Err (record { kind = TooLong; line = 1 }))
  as_events : {es : List Event} → length bytes ≤ FILE_BYTES → HaveEvents (lines bytes) es
      → AreRead bytes (Ok es)
  as_fault : {f : ScheduleFault} → length bytes ≤ FILE_BYTES → HaveFault 1 (lines bytes) f
      → AreRead bytes (Err f)

-- this holds of the reading that is answered, unless memory ran out
abbrev pub IfAnswered : (Reading → Type 0) → Result (Vec Event Global) ScheduleError → Type 0
IfAnswered P (Ok v) = P (Ok v.items)
IfAnswered P (Err (Fault f)) = P (Err f)
IfAnswered P (Err OutOfMemory) = Unit {0}

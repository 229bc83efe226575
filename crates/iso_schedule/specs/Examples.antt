-- The words of example schedules. What each is read as is stated, and proved, in the source module
-- `examples`.
use Prim.Native.String.{String}
use Rattle.std.specs.Prelude.{ℕ, List, codes, Ok, Err}
use Rattle.iso_schedule.specs.Schedules.{AreRead}
use Rattle.iso_standing.specs.declared.event.Event.{Event}
use Rattle.iso_schedule.specs.declared.fault.ScheduleFaultKind.TheVariants.{BadLine, NumberTooBig}

-- a text is read as events, or is refused at a line
abbrev pub IsSchedule : String → List Event → Type 0
IsSchedule text es = AreRead (codes text) (Ok es)

abbrev pub HasBadLine : String → ℕ → Type 0
HasBadLine text n = AreRead (codes text) (Err (record { kind = BadLine; line = n }))

abbrev pub HasBigNumber : String → ℕ → Type 0
HasBigNumber text n = AreRead (codes text) (Err (record { kind = NumberTooBig; line = n }))

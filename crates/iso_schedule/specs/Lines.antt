-- The lines of a schedule, each of which writes an event.
--
-- line of a schedule: Which line writes which event: a word, and after one or more spaces each
-- number in decimal digits (`Writes`, `event`); a line that is an event has numbers of at most nine
-- digits (`IsEvent`); a line is wrong where it writes no event, or a longer number (`IsWrong`).
use Rattle.std.specs.Prelude.{ℕ, ◌≤◌, List, [], ◌++◌, ◌≡◌, ◌≢◌, true, length, codes}
use Rattle.std.specs.List.{AllByRecursion}
use Rattle.std.specs.Str.{all_ascii_digits}
use Rattle.std.specs.Str.Parse.{digits_value}
use Rattle.iso_standing.specs.declared.event.Event.{Event}
use Rattle.iso_standing.specs.declared.event.Event.TheVariants.{Enter, Step, Leave, Shut}
use Rattle.iso_schedule.specs.declared.fault.ScheduleFaultKind.{ScheduleFaultKind}
use Rattle.iso_schedule.specs.declared.fault.ScheduleFaultKind.TheVariants.{BadLine, NumberTooBig}

-- an event as it is written: its numbers are digits
pub data Written : Type 0 where
  enter : (worker node : List ℕ) → Written
  step : (worker : List ℕ) → Written
  leave : (worker : List ℕ) → Written
  shut : (worker node : List ℕ) → Written

-- one or more spaces
abbrev pub IsGap : List ℕ → Type 0
IsGap bs = (bs ≢ []) × AllByRecursion (λ b. b ≡ 32) bs

-- one or more digits
abbrev pub IsNumeral : List ℕ → Type 0
IsNumeral bs = (bs ≢ []) × (all_ascii_digits bs ≡ true)

-- a line that writes an event: its word, and after a gap each number
pub data Writes (line : List ℕ) : Written → Type 0 where
  writes_enter : {w n : List ℕ} (g h : List ℕ) → line ≡ codes "enter" ++ (g ++ (w ++ (h ++ n)))
      → IsGap g → IsNumeral w → IsGap h → IsNumeral n → Writes line (enter w n)
  writes_step : {w : List ℕ} (g : List ℕ) → line ≡ codes "step" ++ (g ++ w)
      → IsGap g → IsNumeral w → Writes line (step w)
  writes_leave : {w : List ℕ} (g : List ℕ) → line ≡ codes "leave" ++ (g ++ w)
      → IsGap g → IsNumeral w → Writes line (leave w)
  writes_shut : {w n : List ℕ} (g h : List ℕ) → line ≡ codes "shut" ++ (g ++ (w ++ (h ++ n)))
      → IsGap g → IsNumeral w → IsGap h → IsNumeral n → Writes line (shut w n)

-- the event that is written so
abbrev pub event : Written → Event
event (enter w n) = Enter (digits_value 10 w) (digits_value 10 n)
event (step w) = Step (digits_value 10 w)
event (leave w) = Leave (digits_value 10 w)
event (shut w n) = Shut (digits_value 10 w) (digits_value 10 n)

-- no number has more than nine digits
abbrev pub IsShort : Written → Type 0
IsShort (enter w n) = (length w ≤ 9) × (length n ≤ 9)
IsShort (step w) = length w ≤ 9
IsShort (leave w) = length w ≤ 9
IsShort (shut w n) = (length w ≤ 9) × (length n ≤ 9)

-- a line that is an event
pub data IsEvent (line : List ℕ) : Event → Type 0 where
  is_event : {x : Written} → Writes line x → IsShort x → IsEvent line (event x)

-- What is wrong with a line: it is not empty and writes no event, or a number has too many digits.
pub data IsWrong (line : List ℕ) : ScheduleFaultKind → Type 0 where
  no_event : line ≢ [] → ((x : Written) → Writes line x → ⊥) → IsWrong line BadLine
  too_big : {x : Written} → Writes line x → (IsShort x → ⊥) → IsWrong line NumberTooBig

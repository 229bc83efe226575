-- What bytes are read as, by functions.
use Rattle.std.proofs.Common.{◌≡◌, ◌+◌, ◌≤◌, ◌∷◌, ℕ, List, [], Bool, true, false, Option, Some, None, Result, Ok, Err, if◌then◌else◌, ◌&&◌, nat_le, length, refl, arith}
use Rattle.std.proofs.lemmas.Bool.{and_parts}
use Rattle.std.proofs.lemmas.Bool.Decides.{nat_tests}
use Rattle.std.specs.Str.Lines.{lines}
use Rattle.iso_model.specs.declared.limits.TheConstants.{FILE_BYTES}
use Rattle.iso_schedule.specs.Lines.{Written, enter, step, leave, shut, IsShort, IsEvent, is_event, IsWrong, no_event, too_big, event}
use Rattle.iso_schedule.specs.Scan.{scanned}
use Rattle.iso_schedule.specs.Schedules.{HaveEvents, no_line, empty_line, event_line, HaveFault, this_line, after_empty_line, after_event_line, Reading, AreRead, too_long, as_events, as_fault}
use Rattle.iso_standing.specs.declared.event.Event.{Event}
use Rattle.iso_schedule.specs.declared.fault.ScheduleFaultKind.{ScheduleFaultKind}
use Rattle.iso_schedule.specs.declared.fault.ScheduleFaultKind.TheVariants.{BadLine, NumberTooBig, TooLong}
use Rattle.iso_schedule.proofs.WrittenLines.{scanned-written, written-scanned}

abbrev pub is_short : Written → Bool
is_short (enter w n) = nat_le (length w) 9 && nat_le (length n) 9
is_short (step w) = nat_le (length w) 9
is_short (leave w) = nat_le (length w) 9
is_short (shut w n) = nat_le (length w) 9 && nat_le (length n) 9

short-IsShort : (x : Written) → is_short x ≡ true → IsShort x
short-IsShort (enter w n) h = let p = and_parts (nat_le (length w) 9) (nat_le (length n) 9) h in (grind (arith, nat_tests, p.0), grind (arith, nat_tests, p.1))
short-IsShort (step w) h = grind (arith, nat_tests)
short-IsShort (leave w) h = grind (arith, nat_tests)
short-IsShort (shut w n) h = let p = and_parts (nat_le (length w) 9) (nat_le (length n) 9) h in (grind (arith, nat_tests, p.0), grind (arith, nat_tests, p.1))

long-IsShort : (x : Written) → is_short x ≡ false → IsShort x → ⊥
long-IsShort (enter w n) h s = grind (arith, nat_tests, s.0, s.1)
long-IsShort (step w) h s = grind (arith, nat_tests)
long-IsShort (leave w) h s = grind (arith, nat_tests)
long-IsShort (shut w n) h s = grind (arith, nat_tests, s.0, s.1)

abbrev pub event_or_fault : Option Written → Result Event ScheduleFaultKind
event_or_fault None = Err BadLine
event_or_fault (Some x) = if is_short x then Ok (event x) else Err NumberTooBig

abbrev IsLineRead : List ℕ → Result Event ScheduleFaultKind → Type 0
IsLineRead line (Ok e) = IsEvent line e
IsLineRead line (Err kind) = IsWrong line kind

line-read : (b : ℕ) (bs : List ℕ) → IsLineRead (b ∷ bs) (event_or_fault (scanned (b ∷ bs)))
line-read b bs = go (scanned (b ∷ bs)) refl
  where
    short : (x : Written) (t : Bool) → scanned (b ∷ bs) ≡ Some x → is_short x ≡ t → IsLineRead (b ∷ bs) (if t then Ok (event x) else Err NumberTooBig)
    short x true e s = is_event (written-scanned (b ∷ bs) x e) (short-IsShort x s)
    short x false e s = too_big (written-scanned (b ∷ bs) x e) (long-IsShort x s)

    go : (o : Option Written) → scanned (b ∷ bs) ≡ o → IsLineRead (b ∷ bs) (event_or_fault o)
    go None e = no_event (λ h. cc) (λ x w. let s = scanned-written (b ∷ bs) x w in cc)
    go (Some x) e = short x (is_short x) e refl

abbrev pub and_then : ℕ → Result Event ScheduleFaultKind → Reading → Reading
and_then n (Err kind) r = Err (record { kind = kind; line = n })
and_then n (Ok e) (Ok es) = Ok (e ∷ es)
and_then n (Ok e) (Err f) = Err f

abbrev pub reading_from : ℕ → List (List ℕ) → Reading
reading_from n [] = Ok []
reading_from n ([] ∷ ls) = reading_from (n + 1) ls
reading_from n ((b ∷ bs) ∷ ls) = and_then n (event_or_fault (scanned (b ∷ bs))) (reading_from (n + 1) ls)

abbrev AreLinesRead : ℕ → List (List ℕ) → Reading → Type 0
AreLinesRead n ls (Ok es) = HaveEvents ls es
AreLinesRead n ls (Err f) = HaveFault n ls f

lines-read : (n : ℕ) (ls : List (List ℕ)) → AreLinesRead n ls (reading_from n ls)
lines-read n [] = no_line
lines-read n ([] ∷ ls) = go (reading_from (n + 1) ls) (lines-read (n + 1) ls)
  where
    go : (r : Reading) → AreLinesRead (n + 1) ls r → AreLinesRead n ([] ∷ ls) r
    go (Ok es) h = empty_line h
    go (Err f) h = after_empty_line h
lines-read n ((b ∷ bs) ∷ ls) = go (event_or_fault (scanned (b ∷ bs))) (reading_from (n + 1) ls) (line-read b bs) (lines-read (n + 1) ls)
  where
    go : (l : Result Event ScheduleFaultKind) (r : Reading) → IsLineRead (b ∷ bs) l → AreLinesRead (n + 1) ls r → AreLinesRead n ((b ∷ bs) ∷ ls) (and_then n l r)
    go (Err kind) r i h = this_line i
    go (Ok e) (Ok es) i h = event_line i h
    go (Ok e) (Err f) i h = after_event_line i h

abbrev pub reading : List ℕ → Reading
reading bytes = if nat_le (length bytes) FILE_BYTES then reading_from 1 (lines bytes) else Err (record { kind = TooLong; line = 1 })

pub bytes_read : (bytes : List ℕ) → AreRead bytes (reading bytes)
bytes_read bytes = go (nat_le (length bytes) FILE_BYTES) refl
  where
    of_lines : (r : Reading) → length bytes ≤ FILE_BYTES → AreLinesRead 1 (lines bytes) r → AreRead bytes r
    of_lines (Ok es) l h = as_events l h
    of_lines (Err f) l h = as_fault l h

    go : (t : Bool) → nat_le (length bytes) FILE_BYTES ≡ t → AreRead bytes (if t then reading_from 1 (lines bytes) else Err (record { kind = TooLong; line = 1 }))
    go true e = of_lines (reading_from 1 (lines bytes)) (grind (arith, nat_tests)) (lines-read 1 (lines bytes))
    go false e = too_long (grind (arith, nat_tests))

-- Numerals of at most nine digits, read from the left.
use Rattle.std.proofs.Common.{◌≡◌, ◌<◌, ◌≤◌, ◌^◌, ◌+◌, ◌-◌, ◌*◌, ℕ, List, [], ◌∷◌, true, length, get_or, take, arith}
use Rattle.std.proofs.lemmas.Bool.Decides.{nat_tests}
use Rattle.std.proofs.lemmas.Int.Digits.{digits_value_more}
use Rattle.std.proofs.lemmas.Str.Parse.{IsNumeralModel, numerals_by_value, tells_all_ascii_digits, digits_value_short, digits_value-take-le, digit_at}
use Rattle.std.specs.Char.{digit_value}
use Rattle.std.specs.Int.{IsInRange}
use Rattle.std.specs.Str.{all_ascii_digits}
use Rattle.std.specs.Str.Parse.{digits_value}
use Rattle.iso_schedule.specs.Scan.{is_numeral}

own : IsNumeralModel (λ ds. all_ascii_digits ds ≡ true) (digits_value 10)
own = numerals_by_value _ tells_all_ascii_digits

pub all_digits : (ds : List ℕ) → is_numeral ds ≡ true → all_ascii_digits ds ≡ true
all_digits [] h = cc
all_digits (b ∷ bs) h = h

in_range-digit_value : (c : ℕ) → IsInRange 48 57 c → digit_value c ≡ c - 48
in_range-digit_value c h = grind (arith, nat_tests)

-- what the next digit adds to those before it
pub record Next (ds : List ℕ) (i : ℕ) : Type 0 where
  pub above : 48 ≤ get_or ds i 0
  pub adds : digits_value 10 (take (i + 1) ds) ≡ digits_value 10 (take i ds) * 10 + (get_or ds i 0 - 48)
  pub fits : digits_value 10 (take (i + 1) ds) < 10 ^ 9

pub next : (ds : List ℕ) (i : ℕ) → is_numeral ds ≡ true → length ds ≤ 9 → i < length ds → Next ds i
next ds i h short inside =
    let digits : all_ascii_digits ds ≡ true = all_digits ds h in
    let digit : IsInRange 48 57 (get_or ds i 0) = digit_at ds i (own.to ds digits) inside in
    let most : digits_value 10 ds < 10 ^ 9 = digits_value_short own ds 9 digits short in
    let less : digits_value 10 (take (i + 1) ds) ≤ digits_value 10 ds = digits_value-take-le 10 ds (i + 1) (omega arith) in
    let more : digits_value 10 (take (i + 1) ds) ≡ digits_value 10 (take i ds) * 10 + digit_value (get_or ds i 0) = digits_value_more 10 ds i inside in
    let value : digit_value (get_or ds i 0) ≡ get_or ds i 0 - 48 = in_range-digit_value _ digit in
    record { above = digit.0; adds = omega arith; fits = omega arith }

-- What `parse` gives at one to nine digits.
use Rattle.std.proofs.Common.{◌≡◌, ◌<◌, ◌≤◌, ◌^◌, ◌&&◌, ℕ, List, Result, Some, true, length, nat_le, ap, arith}
use Rattle.std.proofs.lemmas.Bool.{and_parts}
use Rattle.std.proofs.lemmas.Bool.Decides.{nat_tests}
use Rattle.std.proofs.lemmas.Str.Parse.{IsNumeralModel, numerals_by_value, tells_all_ascii_digits, digits_value_short, parse_gives}
use Rattle.std.specs.Result.{result_ok}
use Rattle.std.specs.Str.{all_ascii_digits}
use Rattle.std.specs.Str.Parse.{ParsesUnsigned, digits_value}
use Rattle.iso_settings.specs.Settings.{is_numeral}

own : IsNumeralModel (λ ds. all_ascii_digits ds ≡ true) (digits_value 10)
own = numerals_by_value _ tells_all_ascii_digits

pub parsed : {E : Type 0} (bs : List ℕ) (r : Result ℕ E) → ParsesUnsigned 32 10 bs r → is_numeral bs ≡ true → result_ok r ≡ Some (digits_value 10 bs)
parsed bs r h n =
    let (lengths, digits) = and_parts (nat_le 1 (length bs) && nat_le (length bs) 9) (all_ascii_digits bs) n in
    let (one, nine) = and_parts (nat_le 1 (length bs)) (nat_le (length bs) 9) lengths in
    let low : 0 < length bs = grind (arith, nat_tests) in
    let high : length bs ≤ 9 = grind (arith, nat_tests) in
    let small : digits_value 10 bs < 2 ^ 32 = omega (arith, digits_value_short own bs 9 digits high) in
    ap result_ok (parse_gives own 32 bs r h digits low small)

-- Times that were measured, in microseconds.
use Rattle.std.specs.Prelude.{ℕ, ◌+◌, ◌/◌, ◌%◌, List, [], ◌∷◌, Option, None, Some, codes, min}
use Rattle.std.specs.Fmt.{decimal}
use Rattle.std.specs.List.{sum}
use Rattle.iso_junit.specs.Texts.{joined}

-- the greatest time that can be told
abbrev pub greatest : ℕ
greatest = 18446744073709551615

-- the sum of times, none where there is no time
abbrev pub time_of : List ℕ → Option ℕ
time_of [] = None
time_of (t ∷ ts) = Some (min (sum (t ∷ ts)) greatest)

-- the last digit of a number
abbrev pub last_digit : ℕ → ℕ
last_digit n = 48 + n % 10

-- six digits of a number below a million
abbrev pub six_digits : ℕ → List ℕ
six_digits n =
    last_digit (n / 100000) ∷ last_digit (n / 10000) ∷ last_digit (n / 1000) ∷ last_digit (n / 100)
    ∷ last_digit (n / 10) ∷ last_digit n ∷ []

-- the attribute of a time, in seconds, where one was measured
abbrev pub time_attribute : Option ℕ → List ℕ
time_attribute None = []
time_attribute (Some t) = joined (codes " time=\"" ∷ decimal (t / 1000000) ∷ codes "."
    ∷ six_digits (t % 1000000) ∷ codes "\"" ∷ [])

-- Times as they are told: with two decimals, which are cut off, in the largest unit of which there
-- is one.
use Rattle.std.specs.Prelude.{ℕ, ◌/◌, ◌%◌, List, ◌++◌, [], ◌∷◌, cond, codes, nat_lt}
use Rattle.std.specs.Fmt.{decimal}

-- hundredths, as a number with two decimals
abbrev pub hundredths : ℕ → List ℕ
hundredths n = decimal (n / 100) ++ codes "." ++ decimal (n / 10 % 10) ++ decimal (n % 10)

-- tenths, as a number with one
abbrev pub tenths : ℕ → List ℕ
tenths n = decimal (n / 10) ++ codes "." ++ decimal (n % 10)

-- a space and µs, in UTF-8
abbrev pub microseconds : List ℕ
microseconds = 32 ∷ 194 ∷ 181 ∷ 115 ∷ []

-- a time in nanoseconds: in seconds, below one in milliseconds, below one of these in microseconds
abbrev pub time : ℕ → List ℕ
time n =
    cond (nat_lt n 1000000) (hundredths (n / 10) ++ microseconds)
    (cond (nat_lt n 1000000000) (hundredths (n / 10000) ++ codes " ms")
    (hundredths (n / 10000000) ++ codes " s"))

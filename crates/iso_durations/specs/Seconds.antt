-- Times in seconds.
use Rattle.std.specs.Prelude.{ℕ, ◌+◌, ◌/◌, ◌%◌, List, [], ◌∷◌, ◌++◌, codes}
use Rattle.std.specs.Fmt.{decimal}

-- the last digit of a number
abbrev pub last_digit : ℕ → ℕ
last_digit n = 48 + n % 10

-- six digits of a number below a million
abbrev pub six_digits : ℕ → List ℕ
six_digits n =
    last_digit (n / 100000) ∷ last_digit (n / 10000) ∷ last_digit (n / 1000) ∷ last_digit (n / 100)
    ∷ last_digit (n / 10) ∷ last_digit n ∷ []

-- microseconds as seconds with six decimals
abbrev pub seconds : ℕ → List ℕ
seconds t = decimal (t / 1000000) ++ codes "." ++ six_digits (t % 1000000)

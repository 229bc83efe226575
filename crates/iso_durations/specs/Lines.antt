-- Lines, and what they are made of.
use Rattle.std.specs.Prelude.{ℕ, List, [], ◌∷◌, ◌++◌, ◌==◌, cond, codes}
use Rattle.std.specs.Fmt.{decimal}

-- a line: these texts one after another, and its end
abbrev pub line : List (List ℕ) → List ℕ
line [] = codes "\n"
line (t ∷ ts) = t ++ line ts

-- `n` things, with the word for one and the word for several
abbrev pub counted : ℕ → (one many : List ℕ) → List ℕ
counted n one many = decimal n ++ cond (n == 1) one many

-- Texts of the examples.
use Rattle.std.specs.Prelude.{ℕ, List, ◌++◌, codes}
use Rattle.std.specs.List.{flat_map}

-- lines, each with its end
abbrev pub lines : List (List ℕ) → List ℕ
lines texts = flat_map (λ text. text ++ codes "\n") texts

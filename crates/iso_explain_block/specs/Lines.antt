-- The lines of an explanation.
use Rattle.std.specs.Prelude.{ℕ, List, [], ◌∷◌, ◌++◌, Bool, ◌||◌, bytes_eq, cond, length, nat_le}
use Rattle.std.specs.List.{list_any}

-- whether a line stands among these
abbrev pub has_line : List ℕ → List (List ℕ) → Bool
has_line line lines = list_any (λ (other : List ℕ). bytes_eq other line) lines

-- these lines with one more, unless it stands there already, or four do
unfoldable pub with_line : List ℕ → List (List ℕ) → List (List ℕ)
with_line line lines =
    cond (nat_le 4 (length lines) || has_line line lines) lines (lines ++ line ∷ [])

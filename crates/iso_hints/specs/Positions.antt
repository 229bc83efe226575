-- Positions in a text.
--
-- hint: The place of a position (`place_at_position`), and a place in a script as patterns see it
-- (`place_at`), which patterns there are (`lies`), when a row of the table fits (`fits`), and what
-- is told of a place (`hint_in`, `hint_at`).
-- Also in: `Places`, `Tokens`, `Patterns`, `Rows`, `Tables`, `Hints`.
use Rattle.std.specs.Prelude.{ℕ, zero, suc, ◌+◌, ◌-◌, List, [], ◌∷◌, ◌==◌, cond}

-- how many bytes the first lines of a text have, this number of them, with their line feeds
abbrev pub line_start : ℕ → List ℕ → ℕ
line_start zero bytes = 0
line_start (suc n) [] = 0
line_start (suc n) (b ∷ bytes) = 1 + line_start (cond (b == 10) n (suc n)) bytes

-- how many bytes of a text stand before a line and a column, both from 1 on
abbrev pub place_at_position : List ℕ → ℕ → ℕ → ℕ
place_at_position text line column = line_start (line - 1) text + (column - 1)

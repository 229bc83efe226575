-- Where the lines of a text start.
--
-- starts of lines: Where the lines of a text start: at its beginning, and behind each line feed
-- (`line_starts`, `starts_from`).
use Rattle.std.specs.Prelude.{ℕ, ◌+◌, List, [], ◌∷◌, ◌==◌, cond}

-- the places behind the line feeds of a text that begins at a place
abbrev pub starts_from : (place : ℕ) → List ℕ → List ℕ
starts_from place [] = []
starts_from place (b ∷ bs) =
    cond (b == 10) ((place + 1) ∷ starts_from (place + 1) bs) (starts_from (place + 1) bs)

-- where the lines of a text start: at its beginning, and behind each line feed
abbrev pub line_starts : List ℕ → List ℕ
line_starts text = 0 ∷ starts_from 0 text

-- Lines of a schedule.
use Rattle.std.specs.Prelude.{ℕ, ◌+◌, ◌-◌, List, [], ◌∷◌, Option, None, Some, ◌==◌, cond, length, nat_le}

-- the line with this number, counted from 1; an empty one where there are fewer
abbrev pub line_at : ℕ → List (List ℕ) → List ℕ
line_at n [] = []
line_at n (l ∷ ls) = cond (nat_le n 1) l (line_at (n - 1) ls)

-- the line of the event with this number, counted from 0, with its own number, where the first line
-- has number n: empty lines write none
abbrev pub event_line : (event n : ℕ) → List (List ℕ) → Option (ℕ × List ℕ)
event_line e n [] = None
event_line e n (l ∷ ls) =
    cond (length l == 0) (event_line e (n + 1) ls)
    (cond (e == 0) (Some (n, l)) (event_line (e - 1) (n + 1) ls))

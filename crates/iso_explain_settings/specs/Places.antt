-- Places in the bytes of a file.
use Rattle.std.specs.Prelude.{ℕ, ◌+◌, ◌-◌, List, ◌==◌, count_by, drop, min, not, take}
use Rattle.std.specs.List.{prefix_len, suffix_len}
use Rattle.std.specs.Str.Lines.{strip_carriage_return}

-- a number as one of 32 bits
abbrev pub narrowed : ℕ → ℕ
narrowed n = min n 4294967295

-- the number of the line in which these bytes end, and the column behind them: both count from 1,
-- and columns count bytes
abbrev pub line_number : List ℕ → ℕ
line_number before = narrowed (count_by (λ b. b == 10) before + 1)

-- how many bytes stand behind the last line feed
abbrev pub in_line : List ℕ → ℕ
in_line before = suffix_len (λ b. not (b == 10)) before

abbrev pub column : List ℕ → ℕ
column before = narrowed (in_line before + 1)

-- what stands before the first line feed, without the CR at its end
abbrev pub first_line : List ℕ → List ℕ
first_line rest = strip_carriage_return (take (prefix_len (λ b. not (b == 10)) rest) rest)

-- the line in which a place stands, without its line end
abbrev pub line_at : List ℕ → (place : ℕ) → List ℕ
line_at bytes place = first_line (drop (place - in_line (take place bytes)) bytes)

-- Texts that are safe to be shown.
use Rattle.std.specs.Prelude.{◌≡◌, ℕ, List, Bool, true, ◌||◌, ◌==◌, filter, length}
use Rattle.std.specs.Int.{is_in_range}
use Rattle.std.specs.List.{list_all}

-- printable ASCII or a line feed
abbrev pub is_safe : ℕ → Bool
is_safe b = (b == 10) || is_in_range 32 126 b

-- each byte of a text is printable ASCII or a line feed
abbrev pub IsSafe : List ℕ → Type 0
IsSafe text = list_all is_safe text ≡ true

-- how many line feeds a text has: that of lines, each with its end, has as many as lines
abbrev pub line_feeds : List ℕ → ℕ
line_feeds text = length (filter (λ b. b == 10) text)

-- Hints for mistakes.
use Rattle.std.specs.Prelude.{ℕ, List, Option}
use Rattle.iso_hints.specs.Places.{place_at}
use Rattle.iso_hints.specs.Rows.{hint_in}
use Rattle.iso_hints.specs.Tables.{forms, table}

-- the hint for the place behind `bytes` bytes of a text: that of the first row of the table that
-- fits it
abbrev pub hint_at : List ℕ → ℕ → Option (List ℕ)
hint_at text bytes = hint_in table (place_at text bytes)

-- how the statement or head is written that stands before the place behind `bytes` bytes of a text
abbrev pub form_at : List ℕ → ℕ → Option (List ℕ)
form_at text bytes = hint_in forms (place_at text bytes)

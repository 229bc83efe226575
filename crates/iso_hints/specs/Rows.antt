-- Rows of the table of hints.
use Rattle.std.specs.Prelude.{ℕ, List, Bool, ◌&&◌, Option, option_map}
use Rattle.std.specs.Borrow.{Bor}
use Rattle.std.specs.List.{find}
use Rattle.iso_hints.specs.Patterns.{lies}
use Rattle.iso_hints.specs.Places.{PlaceView}
use Rattle.iso_hints.specs.Tokens.{is_next}
use Rattle.iso_hints.specs.declared.pattern.Pattern.{Pattern}

-- a row of the table: a pattern, the word that it speaks of, the word at the place, and the hint
pub record Row : Type 0 where
  pub pattern : Pattern
  pub word : List ℕ
  pub at : List ℕ
  pub hint : List ℕ

-- the row fits the place
abbrev pub fits : PlaceView → Row → Bool
fits place row = lies place row.pattern row.word && is_next row.at place.rest

-- what a row of the code is
abbrev pub CodeRow : Type 0
CodeRow = Pattern × Bor (List ℕ) × Bor (List ℕ) × Bor (List ℕ)

abbrev pub row_of : CodeRow → Row
row_of row = record { pattern = row.0; word = row.1.now; at = row.2.now; hint = row.3.now }

-- the hint of the first of these rows that fits a place
abbrev pub hint_in : List Row → PlaceView → Option (List ℕ)
hint_in rows place = option_map (λ row. row.hint) (find (fits place) rows)

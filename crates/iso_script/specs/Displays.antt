-- Display texts.
use Rattle.std.specs.Prelude.{ℕ, List, ◌≡◌, Option, Some, None}
use Rattle.iso_script_lexer.specs.Piece.{Piece}
use Rattle.iso_script_statements.specs.Pieces.{text_next}
use Rattle.iso_script_statements.specs.Statements.{IsDisplay}

-- a display text that comes next, or none
pub data IsDisplayed : Option (List ℕ) → List Piece → List Piece → Type 0 where
  none_displayed : {ps : List Piece} → text_next ps ≡ None → IsDisplayed None ps ps
  displayed : {t : List ℕ} {ps qs : List Piece} → IsDisplay t ps qs → IsDisplayed (Some t) ps qs

-- What stands next among pieces.
use Rattle.std.specs.Prelude.{ℕ, List, [], ◌∷◌, ◌-◌, Option, Some, None}
use Rattle.iso_script_lexer.specs.Piece.{Piece, name_at, number_at, text_at, word_at, symbol_at, bad_at}

-- the name that is next, and what follows it
abbrev pub name_next : List Piece → Option (List ℕ × List Piece)
name_next (name_at r n ∷ ps) = Some (n, ps)
name_next _ = None

-- the text that is next, and what follows it
abbrev pub text_next : List Piece → Option (List ℕ × List Piece)
text_next (text_at r t ∷ ps) = Some (t, ps)
text_next _ = None

-- the name that is next
abbrev pub name_ahead : List Piece → Option (List ℕ)
name_ahead (name_at r n ∷ ps) = Some n
name_ahead _ = None

-- the line that a piece stands on
abbrev pub line_of : Piece → ℕ
line_of (name_at r n) = r.line
line_of (number_at r n) = r.line
line_of (text_at r t) = r.line
line_of (word_at r w) = r.line
line_of (symbol_at r s) = r.line
line_of (bad_at r fault) = r

-- The row of the piece that is next, in a block whose opening brace has this many lines above its
-- own: rows count from 1 on the line of the brace.
abbrev pub row_in : (above : ℕ) → List Piece → ℕ
row_in above [] = 0
row_in above (p ∷ ps) = line_of p - above

-- The pieces that lines are made of, as text.
use Rattle.std.specs.Prelude.{ℕ, List, [], ◌∷◌, ◌++◌}
use Rattle.std.specs.Fmt.{decimal}
use Rattle.iso_model.specs.Texts.{place_text}
use Rattle.iso_tap.specs.Escapes.{escaped, quoted_bytes}
use Rattle.iso_tap.specs.declared.printer.Piece.{Piece}
use Rattle.iso_tap.specs.declared.printer.Piece.TheVariants.{Plain, Number, Escaped, InQuotes, At}

-- the text of a piece
abbrev pub piece_text : Piece → List ℕ
piece_text (Plain bytes) = bytes.now
piece_text (Number n) = decimal n
piece_text (Escaped text) = escaped text.now
piece_text (InQuotes text) = quoted_bytes text.now
piece_text (At place) = place_text place

-- the text of pieces, one after another
abbrev pub pieces_text : List Piece → List ℕ
pieces_text [] = []
pieces_text (p ∷ ps) = piece_text p ++ pieces_text ps

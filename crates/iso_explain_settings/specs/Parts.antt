-- The parts of texts.
use Rattle.std.specs.Prelude.{ℕ, List, [], ◌∷◌, ◌++◌, length, map, nat_lt, take}
use Rattle.std.specs.Fmt.{decimal}
use Rattle.iso_hints.specs.Pictures.{cut, picture, shown_byte}
use Rattle.iso_summary.specs.Names.{shown_name}
use Rattle.iso_tap.specs.Pieces.{pieces_text}
use Rattle.iso_tap.specs.declared.printer.Piece.{Piece}
use Rattle.iso_tap.specs.declared.printer.Piece.TheVariants as piece
use Rattle.iso_explain_settings.specs.declared.part.Part.{Part}
use Rattle.iso_explain_settings.specs.declared.part.Part.TheVariants.{Plain, Number, Shown, Name, Pieces, Picture}

-- texts one after another, and a last one behind them
abbrev pub in_front : List (List ℕ) → List ℕ → List ℕ
in_front [] last = last
in_front (t ∷ ts) last = t ++ in_front ts last

-- texts one after another
abbrev pub joined : List (List ℕ) → List ℕ
joined texts = in_front texts []

-- at most `most` bytes of a text as they are shown, and a mark where it has more
abbrev pub shown_text : ℕ → List ℕ → List ℕ
shown_text most text = map shown_byte (take most text) ++ cut (nat_lt most (length text))

-- a text as the one piece of a label
abbrev pub one_piece : List ℕ → List Piece
one_piece text = piece.Plain (record { ref_ptr = (0, 0); now = text }) ∷ []

-- the text of a part
abbrev pub part_text : Part → List ℕ
part_text (Plain text) = text.now
part_text (Number n) = decimal n
part_text (Shown text most) = shown_text most text.now
part_text (Name file) = shown_name file.now
part_text (Pieces pieces) = pieces_text pieces.now
part_text (Picture p) = picture p.number p.line.now p.column p.width (one_piece p.label.now)

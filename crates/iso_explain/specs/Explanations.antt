-- The explanation of a fault.
use Rattle.std.specs.Prelude.{ℕ, List, [], ◌∷◌, ◌++◌, Option}
use Rattle.iso_hints.specs.Pictures.{picture}
use Rattle.iso_script.specs.declared.explain.Explained.{Explained}
use Rattle.iso_tap.specs.declared.printer.Piece.{Piece}
use Rattle.iso_tap.specs.declared.printer.Piece.TheVariants.{Plain}
use Rattle.iso_explain.specs.Bounds.{bound_note}
use Rattle.iso_explain.specs.Labels.{label_of}
use Rattle.iso_explain.specs.Mending.{hint_of, other_of}
use Rattle.iso_explain.specs.Notes.{brace_note, first_note, mending_note}
use Rattle.iso_explain.specs.Spots.{line_of}

-- a text as the one piece of a label
abbrev pub one_piece : List ℕ → List Piece
one_piece text = Plain (record { ref_ptr = (0, 0); now = text }) ∷ []

-- the line of the fault, with carets and a label
abbrev pub picture_of : List ℕ → Explained → List ℕ
picture_of bytes told =
    picture told.fault.line (line_of bytes told.fault.line) told.fault.column told.width
    (one_piece (label_of told.fault.kind told.reason))

-- the lines below it: what mends the fault, where something stands first, which brace is open, and
-- what there may be at most
abbrev pub notes : List ℕ → Explained → (meant : Option (List ℕ)) → List ℕ
notes bytes told meant =
    mending_note (hint_of bytes told) meant (other_of bytes told)
    ++ first_note told.first
    ++ brace_note told
    ++ bound_note told.fault.kind told.reason

-- the explanation of a fault of these bytes, with a word that was meant, if one is known
unfoldable pub explanation : List ℕ → Explained → (meant : Option (List ℕ)) → List ℕ
explanation bytes told meant = picture_of bytes told ++ notes bytes told meant

-- Pictures of lines.
--
-- picture of a line: The line of a script with its number, at most 160 bytes of it, and carets
-- below (`picture`, `first_shown`, `shown_rest`); a hint below it (`hint_line`).
use Rattle.std.specs.Prelude.{ℕ, ◌+◌, ◌-◌, List, [], ◌++◌, Bool, ◌==◌, cond, codes, drop, length, map, max, min, nat_lt, replicate, take}
use Rattle.std.specs.Fmt.{decimal}
use Rattle.std.specs.Int.{is_in_range}
use Rattle.iso_tap.specs.Pieces.{pieces_text}
use Rattle.iso_tap.specs.declared.printer.Piece.{Piece}

-- a byte of a line as it is shown: a tab as a space, each other one that isn't printable ASCII as
-- `?`
abbrev pub shown_byte : ℕ → ℕ
shown_byte b = cond (b == 9) 32 (cond (is_in_range 32 126 b) b 63)

-- the place of a column in a line of `len` bytes: from 0 on, at most at its end
abbrev pub place_of : ℕ → ℕ → ℕ
place_of len column = min (column - 1) len

-- how many bytes of `len` stand before those that are shown: these are 160, with the place among
-- them or right behind, and at most 80 before it where more stand behind
abbrev pub first_shown : ℕ → ℕ → ℕ
first_shown len place = min (place - 80) (len - 160)

-- what stands where bytes are left out
abbrev pub cut : Bool → List ℕ
cut is_cut = cond is_cut (codes "..") []

-- the rest of a line as it is shown, with or without bytes that are left out before it
abbrev pub shown_rest : Bool → List ℕ → List ℕ
shown_rest is_cut rest =
    cut is_cut ++ map shown_byte (take 160 rest) ++ cut (nat_lt 160 (length rest))

-- how many carets stand at a place for `width` bytes: as many as are shown from there on, at most,
-- and at least one
abbrev pub caret_count : ℕ → ℕ → ℕ → ℕ
caret_count len place width = max 1 (min width (min len (first_shown len place + 160) - place))

-- how many blanks stand before them
abbrev pub caret_blanks : ℕ → ℕ → ℕ
caret_blanks len place =
    length (cut (nat_lt 0 (first_shown len place))) + (place - first_shown len place)

-- a margin with blanks for `digits` digits
abbrev pub margin : ℕ → List ℕ
margin digits = codes " " ++ replicate digits 32 ++ codes " | "

-- a label behind carets
abbrev pub label_text : List Piece → List ℕ
label_text label = cond (length label == 0) [] (codes " " ++ pieces_text label)

-- the line of a script behind its number
abbrev pub source_part : ℕ → List ℕ → List ℕ
source_part first line = codes " | " ++ shown_rest (nat_lt 0 first) (drop first line) ++ codes "\n"

-- the line of carets behind the margin
abbrev pub caret_part : ℕ → ℕ → List Piece → List ℕ
caret_part blanks carets label =
    replicate blanks 32 ++ replicate carets 94 ++ label_text label ++ codes "\n"

-- both lines, of a place
abbrev pub picture_at : ℕ → List ℕ → ℕ → ℕ → List Piece → List ℕ
picture_at number line place width label =
    codes " " ++ decimal number
    ++ source_part (first_shown (length line) place) line
    ++ margin (length (decimal number))
    ++ caret_part (caret_blanks (length line) place) (caret_count (length line) place width) label

-- the picture of a line: the line with its number, and below it carets for `width` bytes from a
-- column on, with a label
abbrev pub picture : ℕ → List ℕ → ℕ → ℕ → List Piece → List ℕ
picture number line column width label =
    picture_at number line (place_of (length line) column) width label

-- a hint below a picture
abbrev pub hint_line : List ℕ → List ℕ
hint_line hint = codes " = " ++ hint ++ codes "\n"

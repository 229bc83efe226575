-- Lines of scripts, as the page shows them.
use Rattle.std.specs.Prelude.{ℕ, List, [], ◌∷◌, ◌++◌, Bool, ◌==◌, cond, codes, flat_map, length, map, slice_index_or}
use Rattle.std.specs.declared.alloc.Global.{Global}
use Rattle.std.specs.declared.vec.Vec.{Vec}
use Rattle.std.specs.Fmt.{decimal}
use Rattle.iso_html.specs.declared.quote.Line.{Line}
use Rattle.iso_junit.specs.Escapes.{escaped}
use Rattle.iso_junit.specs.Texts.{joined}
use Rattle.iso_summary.specs.ShownLines.{cut_end, shown_bytes}

-- a line of a script, with its number
pub record LineView : Type 0 where
  pub number : ℕ
  pub text : List ℕ

abbrev pub line_of : Line → LineView
line_of l = record { number = l.number; text = l.text.now }

-- the lines that are shown of a node's script
abbrev pub excerpt_of : Vec Line Global → List LineView
excerpt_of lines = map line_of lines.items

abbrev pub quoted : List (List LineView) → ℕ → List LineView
quoted quotes n = slice_index_or quotes n []

-- how a line begins; the one that ended a block is marked, also by a sign
abbrev pub begin_text : (marked : Bool) → List ℕ
begin_text marked = cond marked (codes "<mark>&gt; ") (codes "  ")

abbrev pub number_text : (marked : Bool) → ℕ → List ℕ
number_text marked n = joined (begin_text marked ∷ decimal n ∷ codes " | " ∷ [])

-- how it ends
abbrev pub end_text : (marked : Bool) → List ℕ
end_text marked = cond marked (codes "</mark>\n") (codes "\n")

-- what of it is shown: its first 160 bytes, as printable ASCII, and two dots where it has more
abbrev pub shown_text : List ℕ → List ℕ
shown_text text = escaped (shown_bytes text) ++ cut_end text

-- a line, where the one with this number ended a block
abbrev pub line_text : (ended : ℕ) → LineView → List ℕ
line_text ended l =
    number_text (l.number == ended) l.number ++ shown_text l.text ++ end_text (l.number == ended)

-- lines, and nothing where there are none
abbrev pub quote_text : (ended : ℕ) → List LineView → List ℕ
quote_text ended lines = cond (length lines == 0) []
    (codes "<pre>\n" ++ flat_map (line_text ended) lines ++ codes "</pre>\n")

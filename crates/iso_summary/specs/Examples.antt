-- Example places, commands and outcomes.
use Rattle.std.specs.Prelude.{ℕ, List, [], ◌∷◌, ◌++◌, None, Some, true, false, codes, map, slice_index_or}
use Rattle.std.specs.List.{flat_map}
use Rattle.iso_model.specs.declared.fault.FaultKind.TheVariants.{Frozen}
use Rattle.iso_model.specs.declared.outcome.Note.{Note}
use Rattle.iso_model.specs.declared.outcome.Outcome.{Outcome}
use Rattle.iso_model.specs.declared.outcome.Verdict.{Verdict}
use Rattle.iso_model.specs.declared.outcome.Verdict.TheVariants.{Pass, Fail, Fault, Skipped, Blocked}
use Rattle.iso_model.specs.declared.place.BlockName.TheVariants as B
use Rattle.iso_model.specs.declared.place.Place.TheVariants.{Row}
use Rattle.iso_summary.specs.Views.{AgainView, LocatedView}
use Prim.Native.String.{String}

-- lines, each with its line feed
abbrev pub text_of : List String → List ℕ
text_of lines = flat_map (λ l. codes l ++ codes "\n") lines

-- a line of cart.jtap, and of standard input
abbrev pub in_cart : ℕ → String → LocatedView
in_cart line source = record {
  file = codes "cart.jtap";
  named = true;
  line = line;
  source = codes source;
  hints = [];
}

abbrev pub in_stdin : ℕ → String → LocatedView
in_stdin line source =
    record { file = codes "stdin"; named = false; line = line; source = codes source; hints = [] }

-- a line of cart.jtap with what mends it
abbrev pub with_hints : List String → LocatedView
with_hints hints = record (in_cart 3 "    before_all { print 1 + \"a\"; }")
    { hints = map (λ hint. codes hint) hints }

-- a line of a script whose name begins with a dash, and of one whose name has a line feed
abbrev pub in_dash : ℕ → String → LocatedView
in_dash line source = record (in_cart line source) { file = codes "-my cart.jtap" }

abbrev pub in_two_lines : ℕ → String → LocatedView
in_two_lines line source = record (in_cart line source) { file = codes "my\ncart.jtap" }

-- a command without options, and one with all that are told again
abbrev pub plain : AgainView
plain = record { settings = None; world = None; processors = None }

abbrev pub with_options : AgainView
with_options = record {
  settings = Some (codes "it's.toml");
  world = Some (codes "-w.toml");
  processors = Some 4;
}

-- a command whose settings have a name with an escape byte
abbrev pub with_escape : AgainView
with_escape = record plain { settings = Some (27 ∷ codes "[2J") }

-- characters of two bytes: U+0085, which begins a new line, and U+009B, which begins a command of a
-- terminal, as control characters; a space that doesn't break, and ä
abbrev pub next_line : List ℕ
next_line = 194 ∷ 133 ∷ []

abbrev pub command_start : List ℕ
command_start = 194 ∷ 155 ∷ []

abbrev pub wide_space : List ℕ
wide_space = 194 ∷ 160 ∷ []

abbrev pub umlaut : List ℕ
umlaut = 195 ∷ 164 ∷ []

-- characters of three bytes: U+202E, from which on a text is shown from right to left; U+200B, a
-- space without width; U+2028 and U+2029, which end a line and a paragraph; and a dash, U+2010
abbrev pub turned_text : List ℕ
turned_text = 226 ∷ 128 ∷ 174 ∷ []

abbrev pub no_width : List ℕ
no_width = 226 ∷ 128 ∷ 139 ∷ []

abbrev pub line_end : List ℕ
line_end = 226 ∷ 128 ∷ 168 ∷ []

abbrev pub paragraph_end : List ℕ
paragraph_end = 226 ∷ 128 ∷ 169 ∷ []

abbrev pub long_dash : List ℕ
long_dash = 226 ∷ 128 ∷ 144 ∷ []

-- a character of four bytes: U+E0001, a tag of a language
abbrev pub language_tag : List ℕ
language_tag = 243 ∷ 160 ∷ 128 ∷ 129 ∷ []

-- a line of a script whose name has some bytes before `.jtap`
abbrev pub in_file : List ℕ → LocatedView
in_file name = record (in_cart 7 "fail \"no\";") { file = name ++ codes ".jtap" }

-- a message at row 1 of a test
abbrev says : String → Note
says message = record { message = codes message; place = Row B.Test 1 }

-- What the root and Cart, a, Till, b, Drawer, c, d, Desk, e, f came to: the class Cart failed by
-- itself after its tests, and so did Till in it before them, which blocks b and c; d failed, which
-- has the display text "the last"; e and f were skipped.
abbrev verdicts : List Verdict
verdicts =
    Pass
    ∷ Fail (says "still open")
    ∷ Pass
    ∷ Fault Frozen (says "n is frozen")
    ∷ Blocked (says "n is frozen")
    ∷ Blocked (says "n is frozen")
    ∷ Blocked (says "n is frozen")
    ∷ Fail (says "expected: <6> but was: <5>")
    ∷ Pass
    ∷ Skipped (says "no #1")
    ∷ Skipped (says "later")
    ∷ []

abbrev pub outcome_of : ℕ → Outcome
outcome_of n = record { verdict = slice_index_or verdicts n Pass; output = [] }

-- the places of Cart, Till and d, and of e and f
abbrev pub places_of_failures : List LocatedView
places_of_failures =
    in_cart 9 "    after_all { fail \"still open\"; }"
    ∷ in_cart 4 "        before_all { n = 1; }"
    ∷ in_cart 8 "    test d \"the last\" { assert_equal 6, 2 + 3; }"
    ∷ []

abbrev pub places_of_skipped : List LocatedView
places_of_skipped = in_cart 12 "    test e { assume false, \"no #1\"; }"
    ∷ in_cart 13 "    disabled \"later\" test f { }" ∷ []

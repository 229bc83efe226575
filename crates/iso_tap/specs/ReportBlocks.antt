-- The points of a report, each with the block under it (TAP version 14, YAML diagnostics).
use Rattle.std.specs.Prelude.{ℕ, ◌+◌, List, [], ◌∷◌, ◌++◌, Option, Some, None, Bool, true, false, cond, codes}
use Rattle.iso_model.specs.Texts.{place_text}
use Rattle.iso_model.specs.declared.outcome.Note.{Note}
use Rattle.iso_model.specs.declared.outcome.Outcome.{Outcome}
use Rattle.iso_model.specs.declared.outcome.Verdict.{Verdict}
use Rattle.iso_model.specs.declared.outcome.Verdict.TheVariants.{Pass, Fail, Fault, Skipped, Blocked}
use Rattle.iso_tap.specs.Escapes.{quoted}
use Rattle.iso_tap.specs.ReportLines.{line_at, point_line}

-- the word of a verdict
abbrev pub verdict_word : Verdict → List ℕ
verdict_word Pass = codes "pass"
verdict_word (Fail note) = codes "fail"
verdict_word (Fault kind note) = codes "fault"
verdict_word (Skipped note) = codes "skipped"
verdict_word (Blocked note) = codes "blocked"

-- what a verdict says besides: a pass says nothing
abbrev pub note_of : Verdict → Option Note
note_of Pass = None
note_of (Fail note) = Some note
note_of (Fault kind note) = Some note
note_of (Skipped note) = Some note
note_of (Blocked note) = Some note

-- the place of a note. It has nothing to escape.
abbrev pub place_line : (indent : ℕ) → Note → List ℕ
place_line indent note = line_at indent (codes "at: \"" ++ place_text note.place ++ codes "\"")

-- a message and its place, where there are any
abbrev pub note_lines : (indent : ℕ) → Option Note → List ℕ
note_lines indent None = []
note_lines indent (Some note) =
    line_at indent (codes "message: " ++ quoted note.message) ++ place_line indent note

-- printed lines, one item each
abbrev pub item_lines : (indent : ℕ) → List (List ℕ) → List ℕ
item_lines indent [] = []
item_lines indent (l ∷ ls) = line_at indent (codes "- " ++ quoted l) ++ item_lines indent ls

-- the output: the printed lines, or an empty list
abbrev pub output_lines : (indent : ℕ) → List (List ℕ) → List ℕ
output_lines indent [] = line_at indent (codes "output: []")
output_lines indent (l ∷ ls) = line_at indent (codes "output:") ++ item_lines (indent + 2) (l ∷ ls)

-- a verdict's word, and what it says besides
abbrev pub verdict_lines : (indent : ℕ) → Verdict → List ℕ
verdict_lines indent verdict = line_at indent (codes "verdict: " ++ verdict_word verdict)
    ++ note_lines indent (note_of verdict)

-- the block of an outcome
abbrev pub block_lines : (indent : ℕ) → Outcome → List ℕ
block_lines indent o =
    line_at indent (codes "---") ++ verdict_lines indent o.verdict ++ output_lines indent o.output
    ++ line_at indent (codes "...")

-- whether an outcome has nothing to tell: it passed, and nothing was printed
abbrev pub is_silent : Verdict → (output : List (List ℕ)) → Bool
is_silent Pass [] = true
is_silent Pass (l ∷ ls) = false
is_silent (Fail note) ls = false
is_silent (Fault kind note) ls = false
is_silent (Skipped note) ls = false
is_silent (Blocked note) ls = false

-- a point, and its block where the outcome has something to tell
abbrev pub point : (indent number : ℕ) (ok : Bool) (title : List ℕ) → Outcome → List ℕ
point indent number ok title o =
    point_line indent number ok title o.verdict
    ++ cond (is_silent o.verdict o.output) [] (block_lines (indent + 2) o)

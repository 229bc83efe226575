-- The elements of the document.
use Rattle.std.specs.Prelude.{ℕ, List, [], ◌∷◌, ◌++◌, Bool, ◌&&◌, ◌==◌, bytes_eq, cond, codes, flat_map, length}
use Rattle.std.specs.Fmt.{decimal}
use Rattle.iso_model.specs.declared.outcome.Verdict.{Verdict}
use Rattle.iso_model.specs.declared.outcome.Verdict.TheVariants.{Pass, Fail, Fault, Skipped, Blocked}
use Rattle.iso_plan.specs.Tree.{Row}
use Rattle.iso_junit.specs.Escapes.{escaped}
use Rattle.iso_junit.specs.Files.{file_name}
use Rattle.iso_junit.specs.Runs.{PlacedView}
use Rattle.iso_junit.specs.Texts.{joined}

-- a failure or an error of a type, with the message and, as its text, the place before the message
abbrev pub problem : (element type : List ℕ) → PlacedView → (message : List ℕ) → List ℕ
problem element type at message =
    joined
    (codes "      <"
    ∷ element
    ∷ codes " message=\""
    ∷ escaped message
    ∷ codes "\" type=\""
    ∷ type
    ∷ codes "\">"
    ∷ escaped (file_name at.file)
    ∷ codes ":"
    ∷ decimal at.ended
    ∷ codes ": "
    ∷ escaped message
    ∷ codes "</"
    ∷ element
    ∷ codes ">\n"
    ∷ [])

-- that a testcase was skipped, and why
abbrev pub skipped_text : List ℕ → List ℕ
skipped_text reason =
    joined (codes "      <skipped message=\"" ∷ escaped reason ∷ codes "\"/>\n" ∷ [])

-- what a testcase came to, and nothing where it passed
abbrev pub result_text : PlacedView → Verdict → List ℕ
result_text at Pass = []
result_text at (Fail note) = problem (codes "failure") (codes "fail") at note.message
result_text at (Fault kind note) = problem (codes "error") (codes "fault") at note.message
result_text at (Skipped note) = skipped_text note.message
result_text at (Blocked note) = problem (codes "error") (codes "blocked") at note.message

-- whether a node has no display text, or one that is its name
abbrev pub is_called_by_name : Row → Bool
is_called_by_name row = bytes_eq row.title row.name

-- the line of a display text, and that of a node's, where it has one
abbrev pub display_name : List ℕ → List ℕ
display_name title = joined (codes "display-name: " ∷ escaped title ∷ codes "\n" ∷ [])

abbrev pub display_line : Row → List ℕ
display_line row = cond (is_called_by_name row) [] (display_name row.title)

-- lines, each with its end
abbrev pub lines_text : List (List ℕ) → List ℕ
lines_text lines = flat_map (λ l. escaped l ++ codes "\n") lines

-- whether a node has neither a display text nor printed lines
abbrev pub is_silent : Row → (output : List (List ℕ)) → Bool
is_silent row output = is_called_by_name row && length output == 0

-- its display text and the lines that its blocks printed, where it has any of them
abbrev pub output_text : (indent : List ℕ) → Row → (output : List (List ℕ)) → List ℕ
output_text indent row output =
    cond (is_silent row output) []
    (joined (indent ∷ codes "<system-out>" ∷ display_line row ∷ []) ++ lines_text output
    ++ codes "</system-out>\n")

-- What is told of a node.
use Rattle.std.specs.Prelude.{ℕ, List, [], ◌∷◌, ◌++◌, Option, None, Some, Bool, false, not, ◌&&◌, ◌==◌, cond, codes, flat_map, map}
use Rattle.std.specs.Fmt.{decimal}
use Rattle.iso_summary.specs.Lines.{counted, file_option, line, number_option}
use Rattle.iso_summary.specs.Names.{shown_name}
use Rattle.iso_summary.specs.ShownLines.{shown_byte, shown_source}
use Rattle.iso_summary.specs.Unseen.{given_has_unseen, has_unseen}
use Rattle.iso_summary.specs.Views.{AgainView, LocatedView}
use Rattle.iso_summary.specs.Words.{file_word}

-- the line of a place, with what is said of it
abbrev pub place_line : LocatedView → (message : List ℕ) → List ℕ
place_line at message =
    line (codes "  " ∷ shown_name at.file ∷ codes ":" ∷ decimal at.line ∷ codes ": " ∷ message ∷ [])

-- the line of the script that stands there
abbrev pub source_line : LocatedView → List ℕ
source_line at = line (codes "  " ∷ decimal at.line ∷ codes " | " ∷ shown_source at.source ∷ [])

-- a line of what mends it: printable ASCII
abbrev pub hint_line : List ℕ → List ℕ
hint_line hint = line (codes "  = " ∷ map shown_byte hint ∷ [])

-- what mends it, a line each
abbrev pub hint_lines : LocatedView → List ℕ
hint_lines at = flat_map hint_line at.hints

-- the line of the script, and below it what mends it
abbrev pub source_lines : LocatedView → List ℕ
source_lines at = source_line at ++ hint_lines at

-- how many tests are blocked, where any is
abbrev pub blocks_line : ℕ → List ℕ
blocks_line n =
    cond (n == 0) [] (line (codes "  blocks " ∷ counted n (codes " test") (codes " tests") ∷ []))

-- whether the command can be told: the script is a file, and no word has a character that no reader
-- sees
abbrev pub can_be_told : AgainView → LocatedView → Bool
can_be_told again at =
    at.named
    && (not (has_unseen at.file)
    && (not (given_has_unseen again.settings)
    && not (given_has_unseen again.world)))

-- the command that runs a node again, of the one script in which it is written
abbrev pub command_line : AgainView → LocatedView → (path : List ℕ) → List ℕ
command_line again at path =
    line
    (codes "  again: jtap run"
    ∷ file_option (codes " --settings ") again.settings
    ∷ file_option (codes " --world ") again.world
    ∷ number_option (codes " --processors ") again.processors
    ∷ codes " --only "
    ∷ path
    ∷ codes " "
    ∷ file_word at.file
    ∷ [])

-- the same, where it can be told
abbrev pub again_line : AgainView → LocatedView → (path : List ℕ) → List ℕ
again_line again at path = cond (can_be_told again at) (command_line again at path) []

-- a node that failed: its path, the place and the message, the line of the script, what mends it,
-- how many tests it blocks, the command, and an empty line
abbrev pub failure_text : AgainView → LocatedView → (path message : List ℕ) → (blocked : ℕ) → List ℕ
failure_text again at path message blocked =
    line (codes "not ok " ∷ path ∷ [])
    ++ place_line at message
    ++ source_lines at
    ++ blocks_line blocked
    ++ again_line again at path
    ++ line []

-- a node that was skipped: its path, the place and why, and an empty line
abbrev pub skipped_text : LocatedView → (path reason : List ℕ) → List ℕ
skipped_text at path reason = line (codes "skipped " ∷ path ∷ []) ++ place_line at reason ++ line []

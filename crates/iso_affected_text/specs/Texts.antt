-- What is told, as text.
--
-- text of a change: The line of a row (`row_text`), the last lines (`last_lines`), all of it
-- (`affected_text`), and the paths alone (`paths_text`).
-- Also in: `Words`.
use Rattle.std.specs.Prelude.{ℕ, ◌+◌, List, [], ◌∷◌, ◌++◌, Option, Some, None, ◌==◌, cond, codes, flat_map, not}
use Rattle.std.specs.Fmt.{decimal}
use Rattle.iso_affected.specs.declared.counts.Counts.{Counts}
use Rattle.iso_affected_text.specs.Rows.{RowView, SpotView, block_row, node_row, part_row, start_row}
use Rattle.iso_affected_text.specs.Words.{joined, optional, other_file, source_text}
use Rattle.iso_affected_text.specs.declared.row.Became.{Became}
use Rattle.iso_affected_text.specs.declared.row.Became.TheVariants.{Changed, New, Gone}
use Rattle.iso_affected_text.specs.declared.row.Block.{Block}
use Rattle.iso_affected_text.specs.declared.row.Block.TheVariants as B
use Rattle.iso_affected_text.specs.declared.row.Part.{Part}
use Rattle.iso_affected_text.specs.declared.row.Part.TheVariants as P
use Rattle.iso_affected_text.specs.declared.text.Last.{Last}
use Rattle.iso_model.specs.Texts.{lifecycle_word}
use Rattle.iso_summary.specs.Names.{shown_name}

-- the words of what became of a node, of a part and of a block
abbrev pub became_word : Became → List ℕ
became_word Changed = codes "changed "
became_word New = codes "new "
became_word Gone = codes "gone "

abbrev pub part_word : Part → List ℕ
part_word P.NowTest = codes "  was a class"
part_word P.NowClass = codes "  was a test"
part_word P.Marks = codes "  marks"
part_word P.Disabled = codes "  disabled"
part_word P.Static = codes "  static"
part_word P.Field = codes "  field"

abbrev pub block_word : Block → List ℕ
block_word B.Test = codes "test"
block_word (B.Class kind) = lifecycle_word kind

-- where a block differs first: the line there now, and where it was before; one that is new, or was
-- there before alone
abbrev pub spots_text : (now before : Option SpotView) → List ℕ
spots_text (Some now) (Some was) =
    joined (codes ": " ∷ shown_name now.file ∷ codes ":" ∷ decimal now.line ∷ codes ": was "
    ∷ other_file (not (now.script == was.script)) was.file
    ∷ decimal was.line ∷ codes ": " ∷ source_text now.source ∷ codes "\n" ∷ [])
spots_text (Some now) None =
    joined (codes ": " ∷ shown_name now.file ∷ codes ":" ∷ decimal now.line ∷ codes ": new: "
    ∷ source_text now.source ∷ codes "\n" ∷ [])
spots_text None (Some was) =
    joined (codes ": was " ∷ shown_name was.file ∷ codes ":" ∷ decimal was.line ∷ codes ": "
    ∷ source_text was.source ∷ codes "\n" ∷ [])
spots_text None None = codes "\n"

-- the line of a block
abbrev pub block_line : Block → (of_class : Option (List ℕ))
    → (now before : Option SpotView) → List ℕ
block_line block of_class now before = joined
    (codes "  " ∷ block_word block ∷ optional (codes " of ") of_class ∷ []) ++ spots_text now before

-- the line of a row
abbrev pub row_text : RowView → List ℕ
row_text (node_row became path) = joined (became_word became ∷ path ∷ codes "\n" ∷ [])
row_text (part_row part name of_class) = joined (part_word part ∷ optional (codes " ") name
    ∷ optional (codes " of ") of_class ∷ codes "\n" ∷ [])
row_text (block_row block of_class now before) = block_line block of_class now before
row_text (start_row key of_class property) = joined (codes "  start of " ∷ key
    ∷ optional (codes " of ") of_class ∷ optional (codes ": ") property ∷ codes "\n" ∷ [])

abbrev pub rows_text : List RowView → List ℕ
rows_text rows = flat_map row_text rows

-- the line of the path of a changed or a new node, and nothing of another row
abbrev pub path_line : RowView → List ℕ
path_line (node_row Changed path) = joined (path ∷ codes "\n" ∷ [])
path_line (node_row New path) = joined (path ∷ codes "\n" ∷ [])
path_line (node_row Gone path) = []
path_line (part_row part name of_class) = []
path_line (block_row block of_class now before) = []
path_line (start_row key of_class property) = []

abbrev pub paths_text : List RowView → List ℕ
paths_text rows = flat_map path_line rows

-- what is told at the end, with the texts that it lends
pub record LastView : Type 0 where
  pub counts : Counts
  pub folder : List ℕ
  pub missing : ℕ

abbrev pub last_of : Last → LastView
last_of last = record { counts = last.counts; folder = last.folder.now; missing = last.missing }

-- how many tests can have another result, of which and how many, and how many have the same
abbrev pub tests_line : LastView → List ℕ
tests_line last =
    let c = last.counts in
    let other = c.changed + c.new + c.gone in
    joined (decimal other ∷ codes " of " ∷ decimal (other + c.same)
    ∷ codes " tests can have another result than in " ∷ shown_name last.folder ∷ codes ": "
    ∷ decimal c.changed ∷ codes " changed, " ∷ decimal c.new ∷ codes " new, " ∷ decimal c.gone
    ∷ codes " gone; " ∷ decimal c.same
    ∷ codes " have the same, by proof\n" ∷ [])

-- how many files weren't there, if some weren't
abbrev pub missing_words : ℕ → List ℕ
missing_words count = cond (count == 1) (codes " file isn't in ") (codes " files aren't in ")

abbrev pub missing_line : LastView → List ℕ
missing_line last =
    cond (last.missing == 0) [] (joined (decimal last.missing ∷ missing_words last.missing
    ∷ shown_name last.folder ∷ codes "\n" ∷ []))

abbrev pub last_lines : LastView → List ℕ
last_lines last = tests_line last ++ missing_line last

-- the rows, and what is told at the end
abbrev pub affected_text : List RowView → LastView → List ℕ
affected_text rows last = rows_text rows ++ last_lines last

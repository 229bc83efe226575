-- Where blocks differ.
use Rattle.std.specs.Prelude.{ℕ, List, [], Option, codes, length, slice_index_or, unwrap_or}
use Rattle.std.specs.List.{slice_get}
use Rattle.std.specs.Option.{option_map}
use Rattle.iso_affected_text.specs.Changes.{SideView}
use Rattle.iso_affected_text.specs.Rows.{SpotView}
use Rattle.iso_affected_text.specs.declared.row.Block.{Block}
use Rattle.iso_affected_text.specs.declared.row.Block.TheVariants as B
use Rattle.iso_model.specs.declared.place.BlockName.{BlockName}
use Rattle.iso_model.specs.declared.place.BlockName.TheVariants as N
use Rattle.iso_model.specs.declared.place.Place.TheVariants as P
use Rattle.iso_places.specs.Ends.{end_line}
use Rattle.iso_places.specs.SourceLines.{source_line}
use Rattle.iso_places.specs.declared.end.ScriptLine.{ScriptLine}
use Rattle.iso_plan.specs.Paths.{path}
use Rattle.iso_plan.specs.Tree.{Row}

-- the name of a script by its number; one that has none was read from standard input
abbrev pub file_name : (names : List (List ℕ)) → ℕ → List ℕ
file_name names script = slice_index_or names script (codes "stdin")

-- the bytes of a line
abbrev pub source_at : (texts : List (List ℕ)) → ScriptLine → List ℕ
source_at texts line =
    unwrap_or (option_map (λ text. source_line text line.line) (slice_get texts line.script)) []

-- a line with its file and its bytes
abbrev pub spot_at : (names : List (List ℕ)) → SideView → ScriptLine → SpotView
spot_at names side line = record {
  script = line.script;
  file = file_name names line.script;
  line = line.line;
  source = source_at side.texts line;
}

-- the words by which a place names a block of a node: a class's stands at the depth of the class
abbrev pub block_name : List Row → ℕ → Block → BlockName
block_name tree n B.Test = N.Test
block_name tree n (B.Class kind) = N.Class (length (path tree n)) kind

-- the line of a row of a block of a node, where it is there
abbrev pub spot_in : (names : List (List ℕ)) → SideView → ℕ → Block → (row : ℕ) → Option SpotView
spot_in names side n block row = option_map (spot_at names side)
    (end_line side.tree side.sites n (P.Row (block_name side.tree n block) row))

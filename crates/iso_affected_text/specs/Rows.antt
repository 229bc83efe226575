-- The rows of what is told, with the texts that they lend.
use Rattle.std.specs.Prelude.{ℕ, List, Option}
use Rattle.std.specs.Option.{option_copied, option_map}
use Rattle.iso_affected_text.specs.declared.row.Became.{Became}
use Rattle.iso_affected_text.specs.declared.row.Block.{Block}
use Rattle.iso_affected_text.specs.declared.row.Part.{Part}
use Rattle.iso_affected_text.specs.declared.row.Row.{Row}
use Rattle.iso_affected_text.specs.declared.row.Row.TheVariants as R
use Rattle.iso_affected_text.specs.declared.row.Spot.{Spot}

-- a line of a script
pub record SpotView : Type 0 where
  pub script : ℕ
  pub file : List ℕ
  pub line : ℕ
  pub source : List ℕ

-- a row: what became of a node; a part of a node that differs; where a block differs first; a key
-- that starts with another value
pub data RowView : Type 0 where
  node_row : Became → (path : List ℕ) → RowView
  part_row : Part → (name of_class : Option (List ℕ)) → RowView
  block_row : Block → (of_class : Option (List ℕ)) → (now before : Option SpotView) → RowView
  start_row : (key : List ℕ) → (of_class property : Option (List ℕ)) → RowView

-- what is lent
abbrev pub spot_of : Spot → SpotView
spot_of s = record { script = s.script; file = s.file.now; line = s.line; source = s.source.now }

abbrev pub row_of : Row → RowView
row_of (R.Node became path) = node_row became path.now
row_of (R.Part part name of_class) = part_row part (option_copied name) (option_copied of_class)
row_of (R.Block block of_class now before) =
    block_row block (option_copied of_class) (option_map spot_of now) (option_map spot_of before)
row_of (R.Start key of_class property) =
    start_row key.now (option_copied of_class) (option_copied property)

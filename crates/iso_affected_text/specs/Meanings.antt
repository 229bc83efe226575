-- What rows say of the nodes of two suites.
use Rattle.std.specs.Prelude.{◌≡◌, ℕ, List, true, ⊤}
use Rattle.iso_affected.specs.Fates.{IsFate, IsNode, Suites, has_gone}
use Rattle.iso_affected.specs.Listed.{is_listed}
use Rattle.iso_affected.specs.declared.affected.Fate.TheVariants as F
use Rattle.iso_affected_text.specs.Rows.{RowView, block_row, node_row, part_row, start_row}
use Rattle.iso_affected_text.specs.declared.row.Became.TheVariants.{Changed, New, Gone}
use Rattle.iso_plan.specs.PathTexts.{path_text}
use Rattle.iso_plan.specs.Paths.{row_at}
use Rattle.iso_plan.specs.RowView.{tree_of}
use Rattle.iso_plan.specs.Tree.{Row}
use Rattle.iso_suites.specs.PlanSuites.{head_of}

-- a node that is told of where a change alters it, with its path
pub record IsListedAt (tree : List Row) (n : ℕ) (path : List ℕ) : Type 0 where
  pub node : IsNode tree n
  pub listed : is_listed (head_of (row_at tree n).kind) ≡ true
  pub is : path ≡ path_text tree n

-- what a row says of a node is so: one with this path doesn't agree with its namesake, has none in
-- the old suite, or has none in the new one
abbrev pub SaysSo : Suites → RowView → Type 0
SaysSo s (node_row Changed path) = (n : ℕ) × (m : ℕ) × IsListedAt (tree_of s.new) n path
    × IsFate s n (F.Changed m)
SaysSo s (node_row New path) = (n : ℕ) × IsListedAt (tree_of s.new) n path × IsFate s n F.New
SaysSo s (node_row Gone path) = (m : ℕ) × IsListedAt (tree_of s.old) m path
    × (has_gone (tree_of s.old) (tree_of s.new) m ≡ true)
SaysSo s (part_row part name of_class) = ⊤
SaysSo s (block_row block of_class now before) = ⊤
SaysSo s (start_row key of_class property) = ⊤

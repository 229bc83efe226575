-- A tree by the marks as they are written on its nodes, each as often as it is written.
--
-- the tree by the marks as they are written: The same nodes, each with marks of which those of its
-- row are merged (`tree_with`, `AreWritten`).
use Rattle.std.specs.Prelude.{◌≡◌, ◌<◌, ℕ, List, length, map}
use Rattle.iso_model.specs.declared.heads.Mark.{Mark}
use Rattle.iso_plan.specs.Merged.{merged}
use Rattle.iso_plan.specs.Paths.{column, row_at}
use Rattle.iso_plan.specs.Tree.{Row, effective_row}

-- marks for each node of a tree, of which those of its row are merged
abbrev pub AreWritten : List Row → (ℕ → List Mark) → Type 0
AreWritten tree marks = (n : ℕ) → n < length tree → (row_at tree n).written ≡ merged (marks n)

-- the rows of a tree with these marks written on them
abbrev pub rows_with : List Row → (ℕ → List Mark) → List Row
rows_with tree marks = column (λ n. record (row_at tree n) { written = marks n }) (length tree)

-- the tree of the same nodes, with these marks written on them and their effective marks by these
abbrev pub tree_with : List Row → (ℕ → List Mark) → List Row
tree_with tree marks = let rows = rows_with tree marks in map (effective_row rows) rows

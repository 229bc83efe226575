-- The rows of all nodes that a change can alter.
--
-- rows of a change: What is told of what a change can alter (`affected_rows`): a row for each node
-- that is changed or new, or gone, and below a changed one what differs of the nodes on its path
-- (`reasons_on`, `difference_rows`), with the lines of blocks now and before (`spot_in`); what a
-- row says of a node is so (`SaysSo`, `IsListedAt`).
-- Also in: `PartRows`, `Spots`, `Rows`, `Changes`, `Meanings`.
use Rattle.std.specs.Prelude.{ℕ, zero, suc, List, [], ◌∷◌, ◌++◌, Option, Some, None, cond, flat_map, length, slice_index_or}
use Rattle.iso_affected.specs.Listed.{is_listed}
use Rattle.iso_affected.specs.declared.affected.Fate.{Fate}
use Rattle.iso_affected.specs.declared.affected.Fate.TheVariants as F
use Rattle.iso_affected.specs.declared.difference.Difference.{Difference}
use Rattle.iso_affected_text.specs.Changes.{ChangeView}
use Rattle.iso_affected_text.specs.PartRows.{difference_rows}
use Rattle.iso_affected_text.specs.Rows.{RowView, node_row}
use Rattle.iso_affected_text.specs.declared.row.Became.TheVariants.{Changed, New, Gone}
use Rattle.iso_plan.specs.PathTexts.{path_text}
use Rattle.iso_plan.specs.Paths.{path, row_at}
use Rattle.iso_suites.specs.PlanSuites.{head_of}

-- what differs of node n and its namesake, node m, where something is told of it
abbrev pub told_rows : ChangeView → (n m : ℕ) → Option Difference → List RowView
told_rows c n m None = []
told_rows c n m (Some d) = difference_rows c n m d

-- the same of a node with a fate: of one that is changed
abbrev pub own_rows_by : ChangeView → ℕ → Fate → List RowView
own_rows_by c n (F.Changed m) = told_rows c n m (slice_index_or c.told n None)
own_rows_by c n (F.Same m) = []
own_rows_by c n F.New = []

abbrev pub own_rows : ChangeView → ℕ → List RowView
own_rows c n = own_rows_by c n (slice_index_or c.fates n F.New)

-- what differs of the nodes on a path, innermost first: it is told of the outermost first
abbrev pub reasons_on : ChangeView → List ℕ → List RowView
reasons_on c [] = []
reasons_on c (n ∷ ns) = reasons_on c ns ++ own_rows c n

-- the rows of a node of the new suite with a fate
abbrev pub fate_rows : ChangeView → ℕ → Fate → List RowView
fate_rows c n (F.Same m) = []
fate_rows c n (F.Changed m) =
    node_row Changed (path_text c.new.tree n) ∷ reasons_on c (path c.new.tree n)
fate_rows c n F.New = node_row New (path_text c.new.tree n) ∷ []

-- the rows of a node of the new suite, if it is told of
abbrev pub node_rows : ChangeView → ℕ → List RowView
node_rows c n = cond (is_listed (head_of (row_at c.new.tree n).kind))
    (fate_rows c n (slice_index_or c.fates n F.New)) []

-- the rows of the nodes below n, as they are written
abbrev pub nodes_rows : ChangeView → ℕ → List RowView
nodes_rows c zero = []
nodes_rows c (suc n) = nodes_rows c n ++ node_rows c n

-- the row of a node of the old suite that is gone, if it is told of
abbrev pub gone_rows : ChangeView → ℕ → List RowView
gone_rows c m = cond (is_listed (head_of (row_at c.old.tree m).kind))
    (node_row Gone (path_text c.old.tree m) ∷ []) []

-- all rows: those of the new suite as they are written, and then what is gone of the old one
abbrev pub affected_rows : ChangeView → List RowView
affected_rows c = nodes_rows c (length c.new.tree) ++ flat_map (gone_rows c) c.gone

use Rattle.std.proofs.Common.{◌≡◌, map}
use Rattle.iso_plan.specs.Modes.{nearest_mode}
use Rattle.iso_plan.specs.Paths.{column, path}
use Rattle.iso_plan.specs.RowView.{row_of}
use Rattle.iso_plan.proofs.modes.nearest_modes.Given as goal

abbrev pub invariant-nodes : goal.invariant-nodes
invariant-nodes l = l.marked.items ≡ column (λ n. nearest_mode (map row_of l.rows) (path (map row_of l.rows) n)) l.n

use Rattle.std.proofs.Common.{◌≡◌, map}
use Rattle.iso_plan.specs.Modes.{mode}
use Rattle.iso_plan.specs.Paths.{column}
use Rattle.iso_plan.specs.RowView.{row_of}
use Rattle.iso_plan.proofs.modes.modes.Given as goal

abbrev pub invariant-nodes : goal.invariant-nodes
invariant-nodes l = l.modes.items ≡ column (mode (map row_of l.rows) l.settings) l.n

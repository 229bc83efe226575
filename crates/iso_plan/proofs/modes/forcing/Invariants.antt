use Rattle.std.proofs.Common.{◌≡◌, map}
use Rattle.iso_plan.specs.Modes.{forces}
use Rattle.iso_plan.specs.Paths.{column}
use Rattle.iso_plan.specs.RowView.{row_of}
use Rattle.iso_plan.proofs.modes.forcing.Given as goal

abbrev pub invariant-nodes : goal.invariant-nodes
invariant-nodes l = l.forcing.items ≡ column (forces (map row_of l.rows)) l.n

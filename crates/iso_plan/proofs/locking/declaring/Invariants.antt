use Rattle.std.proofs.Common.{◌≡◌, map}
use Rattle.iso_plan.specs.Locks.{declares}
use Rattle.iso_plan.specs.Paths.{column}
use Rattle.iso_plan.specs.RowView.{row_of}
use Rattle.iso_plan.proofs.locking.declaring.Given as goal

abbrev pub invariant-nodes : goal.invariant-nodes
invariant-nodes l = l.declaring.items ≡ column (declares (map row_of l.rows)) l.n

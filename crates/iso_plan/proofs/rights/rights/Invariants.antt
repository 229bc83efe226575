use Rattle.std.proofs.Common.{◌≡◌, map}
use Rattle.iso_plan.specs.NodeChains.{node_rights}
use Rattle.iso_plan.specs.Paths.{column}
use Rattle.iso_plan.specs.RowView.{rights_in, row_of}
use Rattle.iso_plan.proofs.rights.rights.Given as goal

abbrev pub invariant-nodes : goal.invariant-nodes
invariant-nodes l = map rights_in l.rights.items ≡ column (node_rights (map row_of l.rows)) l.n

use Rattle.std.proofs.Common.{◌≡◌, ◌++◌, map}
use Rattle.iso_affected_text.specs.Affected.{nodes_rows}
use Rattle.iso_affected_text.specs.Changes.{change_of}
use Rattle.iso_affected_text.specs.Rows.{row_of}
use Rattle.iso_affected_text.proofs.rows.add_nodes.Given as goal

abbrev pub invariant-nodes : goal.invariant-nodes
invariant-nodes l = map row_of l.rows.items ≡ map row_of l.fn.rows.items ++ nodes_rows (change_of l.change) l.node

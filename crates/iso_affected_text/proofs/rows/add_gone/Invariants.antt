use Rattle.std.proofs.Common.{◌≡◌, ◌++◌, flat_map, map, take}
use Rattle.iso_affected_text.specs.Affected.{gone_rows}
use Rattle.iso_affected_text.specs.Changes.{change_of}
use Rattle.iso_affected_text.specs.Rows.{row_of}
use Rattle.iso_affected_text.proofs.rows.add_gone.Given as goal

abbrev pub invariant-nodes : goal.invariant-nodes
invariant-nodes l = map row_of l.rows.items ≡ map row_of l.fn.rows.items ++ flat_map (gone_rows (change_of l.change)) (take l.node-index l.change.gone.now)

use Rattle.std.proofs.Common.{length, map, ap, ◌∙◌}
use Rattle.iso_plan.proofs.ColumnLemmas.{length-column}
use Rattle.iso_plan.specs.Locks.{declares}
use Rattle.iso_plan.specs.RowView.{row_of}
use Rattle.iso_plan.proofs.locking.locking_nodes.Goals as goal

pub outermost-requires-clause-each : goal.outermost-requires-clause-each
outermost-requires-clause-each c =
    let rows = c.args.rows.now in
    ap length (c.deref.ensures.value ∙ c.in_ok-declaring.ensures) ∙ length-column (declares (map row_of rows)) (length rows)

use Rattle.std.proofs.Common.{◌≡◌, [], cond, false, map, slice_index_or}
use Rattle.iso_plan.specs.Paths.{column}
use Rattle.iso_plan.specs.RowView.{row_of}
use Rattle.iso_plan.specs.Tables.{own_table}
use Rattle.iso_plan.proofs.locks.own_tables.Given as goal

abbrev pub invariant-nodes : goal.invariant-nodes
invariant-nodes l = map (λ t. t.items) l.tables.items ≡ column (λ n. cond (slice_index_or l.repeated n false) [] (own_table (map row_of l.rows) l.count n)) l.n

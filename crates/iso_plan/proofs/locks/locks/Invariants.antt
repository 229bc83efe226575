use Rattle.std.proofs.Common.{false, length, map, slice_index_or}
use Rattle.iso_plan.proofs.LockLemmas.{TablesAre}
use Rattle.iso_plan.specs.RowView.{row_of}
use Rattle.iso_plan.proofs.locks.locks.Given as goal

abbrev pub invariant-nodes : goal.invariant-nodes
invariant-nodes l = TablesAre (map row_of l.rows) (λ m. slice_index_or l.repeated m false) (length l.rows) (map (λ t. t.items) l.tables.items) l.n

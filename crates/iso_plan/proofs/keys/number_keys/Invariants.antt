use Rattle.std.proofs.Common.{◌≡◌, drop, map}
use Rattle.std.specs.Str.{bytes_eq}
use Rattle.indexmap.specs.IndexSet.{insert_all}
use Rattle.iso_plan.specs.KeyTable.{keys, marked_keys}
use Rattle.iso_plan.specs.RowView.{row_of}
use Rattle.iso_plan.proofs.keys.number_keys.Given as goal

abbrev pub invariant-rows : goal.invariant-rows
invariant-rows l = insert_all bytes_eq (map (λ k. k.now) l.table.keys) (marked_keys (map row_of (drop l.row-index l.rows))) ≡ keys (map row_of l.rows)

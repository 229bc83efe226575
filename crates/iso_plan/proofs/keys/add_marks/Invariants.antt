use Rattle.std.proofs.Common.{◌≡◌, drop, map}
use Rattle.std.specs.Str.{bytes_eq}
use Rattle.indexmap.specs.IndexSet.{insert_all}
use Rattle.iso_plan.specs.KeyTable.{mark_keys}
use Rattle.iso_plan.proofs.keys.add_marks.Given as goal

abbrev pub invariant-marks : goal.invariant-marks
invariant-marks l = insert_all bytes_eq (map (λ k. k.now) l.table.keys) (mark_keys (drop l.mark-index l.marks)) ≡ insert_all bytes_eq (map (λ k. k.now) l.fn.table.keys) (mark_keys l.marks)

use Rattle.std.proofs.Common.{◌≡◌, map, take}
use Rattle.iso_plan.specs.RowView.{row_of}
use Rattle.iso_plan.proofs.same.same_rows.Given as goal

abbrev pub invariant-rows : goal.invariant-rows
invariant-rows l = map row_of (take l.i l.a) ≡ map row_of (take l.i l.b)

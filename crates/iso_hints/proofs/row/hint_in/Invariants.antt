use Rattle.std.proofs.Common.{◌≡◌, drop, map}
use Rattle.iso_hints.specs.Rows.{hint_in, row_of}
use Rattle.iso_hints.specs.Places.{view_of}
use Rattle.iso_hints.proofs.row.hint_in.Given as goal

abbrev pub invariant-loop-row : goal.invariant-loop-row
invariant-loop-row l = hint_in (map row_of l.rows) (view_of l.place) ≡ hint_in (map row_of (drop l.row-index l.rows)) (view_of l.place)

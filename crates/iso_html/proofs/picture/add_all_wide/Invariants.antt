use Rattle.std.proofs.Common.{◌≡◌, ◌++◌, drop, flat_map}
use Rattle.iso_html.specs.Pictures.{wide_shapes}
use Rattle.iso_html.proofs.picture.add_all_wide.Given as goal

-- the pieces so far and those of the bars to come
abbrev pub invariant-loop-mark : goal.invariant-loop-mark
invariant-loop-mark l =
    l.shapes.items ++ flat_map (wide_shapes l.span l.row) (drop l.mark-index l.marks) ≡ l.fn.shapes.items ++ flat_map (wide_shapes l.span l.row) l.marks

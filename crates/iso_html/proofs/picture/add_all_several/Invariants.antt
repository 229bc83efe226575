use Rattle.std.proofs.Common.{◌≡◌, ◌++◌}
use Rattle.iso_html.specs.Pictures.{several_below}
use Rattle.iso_html.proofs.picture.add_all_several.Given as goal

abbrev pub invariant-pixels : goal.invariant-pixels
invariant-pixels l = l.shapes.items ≡ l.fn.shapes.items ++ several_below l.row l.groups l.place

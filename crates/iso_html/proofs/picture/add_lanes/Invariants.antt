use Rattle.std.proofs.Common.{◌≡◌, ◌++◌, map}
use Rattle.iso_html.specs.Pictures.{lanes_below}
use Rattle.iso_html.proofs.picture.add_lanes.Given as goal

abbrev pub invariant-workers : goal.invariant-workers
invariant-workers l = l.shapes.items ≡ l.fn.shapes.items ++ lanes_below (map (λ v. v.items) l.lanes) l.pixels l.span l.worker

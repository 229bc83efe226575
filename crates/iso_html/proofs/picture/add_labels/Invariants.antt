use Rattle.std.proofs.Common.{◌≡◌, ◌++◌}
use Rattle.iso_html.specs.Pictures.{labels_below}
use Rattle.iso_html.proofs.picture.add_labels.Given as goal

abbrev pub invariant-workers : goal.invariant-workers
invariant-workers l = l.shapes.items ≡ l.fn.shapes.items ++ labels_below l.worker

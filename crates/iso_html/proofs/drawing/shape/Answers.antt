use Rattle.std.proofs.Common.{ℕ, ap}
use Rattle.iso_html.specs.PictureText.{label_text}
use Rattle.iso_tap.proofs.PrinterLemmas.{prints_as}
use Rattle.iso_html.proofs.drawing.shape.Goals as goal

pub returns-in-Label : goal.returns-in-Label
returns-in-Label g c = rw c.in-Label.is (prints_as c.write_parts.ensures _ (ap (λ (n : ℕ). label_text n) c.from.ensures))

pub returns-in-Several : goal.returns-in-Several
returns-in-Several g c = rw c.in-Several.is c.group.ensures

pub returns-in-End : goal.returns-in-End
returns-in-End g c = rw c.in-End.is c.bytes.ensures

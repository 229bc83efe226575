use Rattle.std.proofs.Common.{append_assoc, append-nil}
use Rattle.iso_explain.specs.Bounds.{number_note}
use Rattle.iso_tap.proofs.PrinterLemmas.{prints_as}
use Rattle.iso_explain.proofs.bound.number_bounds.Goals as goal

pub returns : goal.returns
returns g c = prints_as c.note.ensures number_note (simp (append_assoc, append-nil))

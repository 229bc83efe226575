use Rattle.std.proofs.Common.{append_assoc, append-nil}
use Rattle.iso_tap.proofs.PrinterLemmas.{prints_as}
use Rattle.iso_explain_plan.specs.Parts.{known_place}
use Rattle.iso_explain_plan.proofs.note.known_place.Goals as goal

pub returns : goal.returns
returns g c = prints_as c.pieces.ensures (known_place c.args.at) (simp (append_assoc, append-nil))

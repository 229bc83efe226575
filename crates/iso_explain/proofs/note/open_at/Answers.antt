use Rattle.std.proofs.Common.{append_assoc}
use Rattle.iso_hints.specs.Pictures.{hint_line}
use Rattle.iso_explain.specs.Notes.{open_text}
use Rattle.iso_tap.proofs.PrinterLemmas.{prints_as}
use Rattle.iso_explain.proofs.note.open_at.Goals as goal

pub returns : goal.returns
returns g c = prints_as c.note.ensures (hint_line (open_text c.args.at)) (simp (append_assoc))

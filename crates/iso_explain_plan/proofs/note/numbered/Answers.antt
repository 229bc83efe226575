use Rattle.std.proofs.Common.{◌++◌, append-nil, codes}
use Rattle.std.specs.Fmt.{decimal}
use Rattle.iso_tap.proofs.PrinterLemmas.{prints_as}
use Rattle.iso_explain_plan.proofs.note.numbered.Goals as goal

pub returns : goal.returns
returns g c = prints_as c.pieces.ensures (codes "node " ++ decimal c.args.number) (simp (append-nil))

use Rattle.iso_tap.proofs.PrinterLemmas.{prints_then}
use Rattle.iso_explain_plan.proofs.note.node_note.Goals as goal

pub returns : goal.returns
returns g c = prints_then _ c.in_ok-bytes.ensures c.node_line.ensures

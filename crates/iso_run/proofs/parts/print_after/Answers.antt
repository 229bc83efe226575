use Rattle.iso_tap.proofs.PrinterLemmas.{prints_then}
use Rattle.iso_run.proofs.parts.print_after.Goals as goal

pub returns : goal.returns
returns g c = prints_then c.print_alone.result c.in_ok-bytes.ensures c.print_alone.ensures

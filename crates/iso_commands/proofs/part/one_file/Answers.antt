use Rattle.iso_tap.proofs.PrinterLemmas.{prints_then}
use Rattle.iso_commands.proofs.part.one_file.Goals as goal

pub returns : goal.returns
returns g c = prints_then _ c.in_ok-bytes.ensures c.file.ensures

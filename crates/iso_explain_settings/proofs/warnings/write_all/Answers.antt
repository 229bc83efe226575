use Rattle.iso_tap.proofs.PrinterLemmas.{prints_then}
use Rattle.iso_explain_settings.proofs.warnings.write_all.Goals as goal

pub returns : goal.returns
returns g c = prints_then _ c.in_ok-write_lines.ensures c.write_more.ensures

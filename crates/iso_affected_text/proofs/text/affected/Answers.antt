use Rattle.iso_affected_text.specs.Texts.{last_lines, last_of}
use Rattle.iso_tap.proofs.PrinterLemmas.{prints_stopped, prints_then}
use Rattle.iso_affected_text.proofs.text.affected.Goals as goal

pub returns-in_err-all : goal.returns-in_err-all
returns-in_err-all g c = prints_stopped (last_lines (last_of c.args.last.now)) _ c.from_residual.ensures.0 c.in_err-all.ensures

pub returns : goal.returns
returns g c = prints_then _ c.in_ok-all.ensures c.last_lines.ensures

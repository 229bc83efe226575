use Rattle.iso_affected_text.specs.Texts.{last_of, missing_line}
use Rattle.iso_tap.proofs.PrinterLemmas.{prints_stopped, prints_then}
use Rattle.iso_affected_text.proofs.text.last_lines.Goals as goal

pub returns-in_err-tests_line : goal.returns-in_err-tests_line
returns-in_err-tests_line g c = prints_stopped (missing_line (last_of c.args.last.now)) _ c.from_residual.ensures.0 c.in_err-tests_line.ensures

pub returns : goal.returns
returns g c = prints_then _ c.in_ok-tests_line.ensures c.missing_line.ensures

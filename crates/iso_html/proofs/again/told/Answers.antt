use Rattle.iso_html.specs.Commands.{script_text}
use Rattle.iso_tap.proofs.PrinterLemmas.{prints_stopped, prints_then}
use Rattle.iso_html.proofs.again.told.Goals as goal

pub returns-in_err-command : goal.returns-in_err-command
returns-in_err-command g c = prints_stopped (script_text c.args.file.now) _ c.from_residual.ensures.0 c.in_err-command.ensures

pub returns : goal.returns
returns g c = prints_then _ c.in_ok-command.ensures c.script.ensures

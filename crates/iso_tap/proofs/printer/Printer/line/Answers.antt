use Rattle.std.proofs.Common.{codes}
use Rattle.iso_tap.proofs.PrinterLemmas.{prints_stopped, prints_then}
use Rattle.iso_tap.proofs.printer.Printer.line.Goals as goal

pub returns-in_err-pieces : goal.returns-in_err-pieces
returns-in_err-pieces g c =
    prints_stopped (codes "\n") _ c.from_residual-in_err-pieces.ensures.0 (prints_then _ c.in_ok-spaces.ensures c.in_err-pieces.ensures)

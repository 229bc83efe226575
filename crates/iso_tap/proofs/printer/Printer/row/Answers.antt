use Rattle.std.proofs.Common.{Ok, ap}
use Rattle.std.specs.Fmt.{decimal}
use Rattle.iso_tap.proofs.PrinterLemmas.{prints_as, prints_stopped, prints_then}
use Rattle.iso_tap.proofs.printer.Printer.row.Goals as goal

pub returns-in_err-bytes : goal.returns-in_err-bytes
returns-in_err-bytes g c =
    prints_stopped (decimal c.args.row) _ c.from_residual-in_err-bytes.ensures.0 (prints_then _ c.in_ok-block_words.ensures c.in_err-bytes.ensures)

pub returns : goal.returns
returns g c =
    prints_then _ (prints_then (Ok tt) c.in_ok-block_words.ensures c.in_ok-bytes.ensures) (prints_as c.number.ensures (decimal c.args.row) (ap decimal c.from.ensures))

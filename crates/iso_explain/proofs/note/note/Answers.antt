use Rattle.std.proofs.Common.{Ok, codes}
use Rattle.iso_tap.proofs.PrinterLemmas.{prints_stopped, prints_then}
use Rattle.iso_explain.proofs.note.note.Goals as goal

pub returns-in_err-pieces : goal.returns-in_err-pieces
returns-in_err-pieces g c =
    prints_stopped (codes "\n") _ c.from_residual-in_err-pieces.ensures.0 (prints_then _ c.in_ok-bytes.ensures c.in_err-pieces.ensures)

pub returns : goal.returns
returns g c = prints_then _ (prints_then (Ok tt) c.in_ok-bytes.ensures c.in_ok-pieces.ensures) c.bytes-2.ensures

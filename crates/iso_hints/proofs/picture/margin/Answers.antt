use Rattle.std.proofs.Common.{Ok, codes}
use Rattle.iso_tap.proofs.PrinterLemmas.{prints_stopped, prints_then}
use Rattle.iso_hints.proofs.picture.margin.Goals as goal

pub returns-in_err-repeated : goal.returns-in_err-repeated
returns-in_err-repeated g c =
    prints_stopped (codes " | ") _ c.from_residual-in_err-repeated.ensures.0 (prints_then _ c.in_ok-bytes.ensures c.in_err-repeated.ensures)

pub returns : goal.returns
returns g c = prints_then _ (prints_then (Ok tt) c.in_ok-bytes.ensures c.in_ok-repeated.ensures) c.bytes-2.ensures

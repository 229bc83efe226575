use Rattle.std.proofs.Common.{◌≡◌, ◌==◌, Ok, codes, false, arith}
use Rattle.std.proofs.lemmas.Bool.Decides.{nat_tests}
use Rattle.iso_tap.proofs.PrinterLemmas.{prints_stopped, prints_then}
use Rattle.iso_summary.proofs.line.failed_classes.Goals as goal

pub returns-in_err-counted : goal.returns-in_err-counted
returns-in_err-counted g c =
    let some : (c.args.count == 0) ≡ false = grind (arith, nat_tests) in
    rw some (prints_stopped (codes " not ok") _ c.from_residual-in_err-counted.ensures.0 (prints_then _ c.in_ok-bytes.ensures c.in_err-counted.ensures))

pub returns : goal.returns
returns g c =
    let some : (c.args.count == 0) ≡ false = grind (arith, nat_tests) in
    rw some (prints_then _ (prints_then (Ok tt) c.in_ok-bytes.ensures c.in_ok-counted.ensures) c.bytes-2.ensures)

use Rattle.std.proofs.Common.{Ok, codes}
use Rattle.iso_tap.proofs.PrinterLemmas.{prints_as, prints_stopped, prints_then}
use Rattle.iso_hints.proofs.picture.write_hint.Goals as goal

pub returns-in_err-bytes-2 : goal.returns-in_err-bytes-2
returns-in_err-bytes-2 g c =
    let hint = prints_as c.in_err-bytes-2.ensures c.args.hint.now c.as_bytes.ensures.value in
    prints_stopped (codes "\n") _ c.from_residual-in_err-bytes-2.ensures.0 (prints_then _ c.in_ok-bytes.ensures hint)

pub returns : goal.returns
returns g c =
    let hint = prints_as {r = Ok tt} c.in_ok-bytes-2.ensures c.args.hint.now c.as_bytes.ensures.value in
    prints_then _ (prints_then (Ok tt) c.in_ok-bytes.ensures hint) c.bytes-3.ensures

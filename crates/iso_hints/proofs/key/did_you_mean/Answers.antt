use Rattle.std.proofs.Common.{Ok, codes}
use Rattle.iso_tap.proofs.PrinterLemmas.{prints_as, prints_cut, prints_stopped, prints_then}
use Rattle.iso_hints.proofs.key.did_you_mean.Goals as goal

pub returns-in_err-bytes : goal.returns-in_err-bytes
returns-in_err-bytes g c =
    prints_stopped (codes "?") _ c.from_residual.ensures.0 (prints_cut c.args.key.now _ _ c.in_err-bytes.ensures)

pub returns-in_err-bytes-2 : goal.returns-in_err-bytes-2
returns-in_err-bytes-2 g c =
    let key = prints_as c.in_err-bytes-2.ensures c.args.key.now c.as_bytes.ensures.value in
    prints_stopped (codes "?") _ c.from_residual-in_err-bytes-2.ensures.0 (prints_then _ c.in_ok-bytes.ensures key)

pub returns : goal.returns
returns g c =
    let key = prints_as {r = Ok tt} c.in_ok-bytes-2.ensures c.args.key.now c.as_bytes.ensures.value in
    prints_then _ (prints_then (Ok tt) c.in_ok-bytes.ensures key) c.bytes-3.ensures

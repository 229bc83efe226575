use Rattle.std.proofs.Common.{Ok, ap, codes, drop, nat_lt}
use Rattle.iso_hints.specs.Pictures.{shown_rest}
use Rattle.iso_tap.proofs.PrinterLemmas.{prints_as, prints_cut, prints_stopped, prints_then}
use Rattle.iso_hints.proofs.picture.source_part.Goals as goal

pub returns-in_err-bytes : goal.returns-in_err-bytes
returns-in_err-bytes g c =
    let rest = shown_rest (nat_lt 0 c.args.first) (drop c.args.first c.args.line.now) in
    prints_stopped (codes "\n") _ c.from_residual.ensures.0 (prints_cut rest _ _ c.in_err-bytes.ensures)

pub returns-in_err-shown_rest : goal.returns-in_err-shown_rest
returns-in_err-shown_rest g c =
    let first = c.args.first in
    let rest = prints_as c.in_err-shown_rest.ensures (shown_rest (nat_lt 0 first) (drop first c.args.line.now)) (ap (shown_rest (nat_lt 0 first)) c.rest_of.ensures) in
    prints_stopped (codes "\n") _ c.from_residual-in_err-shown_rest.ensures.0 (prints_then _ c.in_ok-bytes.ensures rest)

pub returns : goal.returns
returns g c =
    let first = c.args.first in
    let rest = prints_as {r = Ok tt} c.in_ok-shown_rest.ensures (shown_rest (nat_lt 0 first) (drop first c.args.line.now)) (ap (shown_rest (nat_lt 0 first)) c.rest_of.ensures) in
    prints_then _ (prints_then (Ok tt) c.in_ok-bytes.ensures rest) c.bytes-2.ensures

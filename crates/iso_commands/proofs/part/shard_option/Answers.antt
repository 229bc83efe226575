use Rattle.std.proofs.Common.{Ok, codes, ap}
use Rattle.std.specs.Fmt.{decimal}
use Rattle.iso_tap.proofs.PrinterLemmas.{prints_as, prints_cut, prints_stopped, prints_then}
use Rattle.iso_commands.proofs.part.shard_option.Goals as goal

pub returns-in_err-number-in-Some : goal.returns-in_err-number-in-Some
returns-in_err-number-in-Some g c =
    let number = prints_as c.in_err-number-in-Some.ensures (decimal c.in-Some.shard.number) (ap decimal c.from.ensures) in
    let e = c.in_err-number-in-Some.field-0.0 in
    rw c.in-Some.is
    (prints_stopped (decimal c.in-Some.shard.of) _ c.from_residual-in_err-number-in-Some.ensures.0
    (prints_cut (codes "/") e e (prints_then _ c.in_ok-bytes-in-Some.ensures number)))

pub returns-in_err-bytes-in-Some-2 : goal.returns-in_err-bytes-in-Some-2
returns-in_err-bytes-in-Some-2 g c =
    let number = prints_as c.in_ok-number-in-Some.ensures (decimal c.in-Some.shard.number) (ap decimal c.from.ensures) in
    rw c.in-Some.is
    (prints_stopped (decimal c.in-Some.shard.of) _ c.from_residual-in_err-bytes-in-Some-2.ensures.0
    (prints_then _ (prints_then (Ok tt) c.in_ok-bytes-in-Some.ensures number) c.in_err-bytes-in-Some-2.ensures))

pub returns-in_ok-bytes-in-Some-2 : goal.returns-in_ok-bytes-in-Some-2
returns-in_ok-bytes-in-Some-2 g c =
    let number = prints_as c.in_ok-number-in-Some.ensures (decimal c.in-Some.shard.number) (ap decimal c.from.ensures) in
    let of = prints_as c.number-in-Some.ensures (decimal c.in-Some.shard.of) (ap decimal c.from-in-Some.ensures) in
    rw c.in-Some.is (prints_then _ (prints_then (Ok tt) (prints_then (Ok tt) c.in_ok-bytes-in-Some.ensures number) c.in_ok-bytes-in-Some-2.ensures) of)

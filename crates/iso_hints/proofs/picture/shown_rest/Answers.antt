use Rattle.std.proofs.Common.{ℕ, Ok, ap, length, map, nat_lt, take, ◌∙◌}
use Rattle.std.proofs.Math.Nat.{min_comm}
use Rattle.std.proofs.lemmas.List.{take_min}
use Rattle.iso_hints.specs.Pictures.{cut, shown_byte}
use Rattle.iso_tap.proofs.PrinterLemmas.{prints_as, prints_cut, prints_stopped, prints_then}
use Rattle.iso_hints.proofs.picture.shown_rest.Goals as goal

pub returns-in_err-bytes : goal.returns-in_err-bytes
returns-in_err-bytes g c =
    let rest = c.args.rest.now in
    let first = prints_as c.in_err-bytes.ensures (cut c.args.is_cut) c.cut.ensures in
    prints_stopped (cut (nat_lt 160 (length rest))) _ c.from_residual.ensures.0 (prints_cut (map shown_byte (take 160 rest)) _ _ first)

pub returns-in_err-shown : goal.returns-in_err-shown
returns-in_err-shown g c =
    let rest = c.args.rest.now in
    let few = ap (λ (n : ℕ). take n rest) (c.min.ensures ∙ min_comm (length rest) 160) ∙ take_min 160 rest in
    let first = prints_as {r = Ok tt} c.in_ok-bytes.ensures (cut c.args.is_cut) c.cut.ensures in
    prints_stopped (cut (nat_lt 160 (length rest))) _ c.from_residual-in_err-shown.ensures.0
    (prints_then _ first (prints_as c.in_err-shown.ensures (map shown_byte (take 160 rest)) (ap (map shown_byte) few)))

pub returns : goal.returns
returns g c =
    let rest = c.args.rest.now in
    let few = ap (λ (n : ℕ). take n rest) (c.min.ensures ∙ min_comm (length rest) 160) ∙ take_min 160 rest in
    let first = prints_as {r = Ok tt} c.in_ok-bytes.ensures (cut c.args.is_cut) c.cut.ensures in
    let bytes = prints_as {r = Ok tt} c.in_ok-shown.ensures (map shown_byte (take 160 rest)) (ap (map shown_byte) few) in
    prints_then _ (prints_then (Ok tt) first bytes) (prints_as c.bytes-2.ensures (cut (nat_lt 160 (length rest))) c.cut-2.ensures)

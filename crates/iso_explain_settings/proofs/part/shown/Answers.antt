use Rattle.std.proofs.Common.{ℕ, Ok, ap, length, map, nat_lt, take, ◌∙◌}
use Rattle.std.proofs.Math.Nat.{min_comm}
use Rattle.std.proofs.lemmas.List.{take_min}
use Rattle.iso_hints.specs.Pictures.{cut, shown_byte}
use Rattle.iso_tap.proofs.PrinterLemmas.{prints_as, prints_stopped, prints_then}
use Rattle.iso_explain_settings.proofs.part.shown.Goals as goal

pub returns-in_err-each : goal.returns-in_err-each
returns-in_err-each g c =
    let bytes = c.args.bytes.now in
    let few = ap (λ (n : ℕ). take n bytes) (c.min.ensures ∙ min_comm (length bytes) c.args.most) ∙ take_min c.args.most bytes in
    prints_stopped (cut (nat_lt c.args.most (length bytes))) _ c.from_residual.ensures.0
    (prints_as c.in_err-each.ensures (map shown_byte (take c.args.most bytes)) (ap (map shown_byte) few))

pub returns : goal.returns
returns g c =
    let bytes = c.args.bytes.now in
    let few = ap (λ (n : ℕ). take n bytes) (c.min.ensures ∙ min_comm (length bytes) c.args.most) ∙ take_min c.args.most bytes in
    let first = prints_as {r = Ok tt} c.in_ok-each.ensures (map shown_byte (take c.args.most bytes)) (ap (map shown_byte) few) in
    prints_then _ first (prints_as c.bytes.ensures (cut (nat_lt c.args.most (length bytes))) c.cut.ensures)

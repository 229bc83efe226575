use Rattle.std.proofs.Common.{List, ℕ, ◌++◌, Ok, ap, codes}
use Rattle.iso_hints.specs.Settings.{origin_text, value_text}
use Rattle.iso_tap.proofs.PrinterLemmas.{prints_as, prints_cut, prints_stopped, prints_then}
use Rattle.iso_hints.proofs.setting.set_line.Goals as goal

pub returns-in_err-pieces : goal.returns-in_err-pieces
returns-in_err-pieces g c =
    let key = prints_as c.in_err-pieces.ensures (c.args.key.now ++ codes " = ") (ap (λ (t : List ℕ). t ++ codes " = ") c.as_bytes.ensures.value) in
    prints_stopped (codes "\n") _ c.from_residual.ensures.0
    (prints_cut (origin_text c.args.origin.now) _ _ (prints_cut (value_text c.args.value.now) _ _ key))

pub returns-in_err-value_text : goal.returns-in_err-value_text
returns-in_err-value_text g c =
    let key = prints_as {r = Ok tt} c.in_ok-pieces.ensures (c.args.key.now ++ codes " = ") (ap (λ (t : List ℕ). t ++ codes " = ") c.as_bytes.ensures.value) in
    prints_stopped (codes "\n") _ c.from_residual-in_err-value_text.ensures.0
    (prints_cut (origin_text c.args.origin.now) _ _ (prints_then _ key c.in_err-value_text.ensures))

pub returns-in_err-origin_text : goal.returns-in_err-origin_text
returns-in_err-origin_text g c =
    let key = prints_as {r = Ok tt} c.in_ok-pieces.ensures (c.args.key.now ++ codes " = ") (ap (λ (t : List ℕ). t ++ codes " = ") c.as_bytes.ensures.value) in
    prints_stopped (codes "\n") _ c.from_residual-in_err-origin_text.ensures.0
    (prints_then _ (prints_then (Ok tt) key c.in_ok-value_text.ensures) c.in_err-origin_text.ensures)

pub returns : goal.returns
returns g c =
    let key = prints_as {r = Ok tt} c.in_ok-pieces.ensures (c.args.key.now ++ codes " = ") (ap (λ (t : List ℕ). t ++ codes " = ") c.as_bytes.ensures.value) in
    prints_then _ (prints_then (Ok tt) (prints_then (Ok tt) key c.in_ok-value_text.ensures) c.in_ok-origin_text.ensures) c.bytes.ensures

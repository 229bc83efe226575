use Rattle.std.proofs.Common.{Ok, ap, codes, map, option_map}
use Rattle.iso_hints.specs.Keys.{suggestion}
use Rattle.iso_hints.specs.Pictures.{shown_byte}
use Rattle.iso_tap.proofs.PrinterLemmas.{prints_as, prints_cut, prints_stopped, prints_then}
use Rattle.iso_hints.proofs.key.write_unknown.Goals as goal

pub returns-in_err-bytes : goal.returns-in_err-bytes
returns-in_err-bytes g c =
    prints_stopped (codes "\n") _ c.from_residual.ensures.0
    (prints_cut (suggestion (option_map (λ k. k.now) c.args.meant)) _ _ (prints_cut (map shown_byte c.args.key.now) _ _ c.in_err-bytes.ensures))

pub returns-in_err-shown : goal.returns-in_err-shown
returns-in_err-shown g c =
    let key = prints_as c.in_err-shown.ensures (map shown_byte c.args.key.now) (ap (map shown_byte) c.as_bytes.ensures.value) in
    prints_stopped (codes "\n") _ c.from_residual-in_err-shown.ensures.0
    (prints_cut (suggestion (option_map (λ k. k.now) c.args.meant)) _ _ (prints_then _ c.in_ok-bytes.ensures key))

pub returns-in_err-suggestion : goal.returns-in_err-suggestion
returns-in_err-suggestion g c =
    let key = prints_as {r = Ok tt} c.in_ok-shown.ensures (map shown_byte c.args.key.now) (ap (map shown_byte) c.as_bytes.ensures.value) in
    prints_stopped (codes "\n") _ c.from_residual-in_err-suggestion.ensures.0
    (prints_then _ (prints_then (Ok tt) c.in_ok-bytes.ensures key) c.in_err-suggestion.ensures)

pub returns : goal.returns
returns g c =
    let key = prints_as {r = Ok tt} c.in_ok-shown.ensures (map shown_byte c.args.key.now) (ap (map shown_byte) c.as_bytes.ensures.value) in
    prints_then _ (prints_then (Ok tt) (prints_then (Ok tt) c.in_ok-bytes.ensures key) c.in_ok-suggestion.ensures) c.bytes-2.ensures

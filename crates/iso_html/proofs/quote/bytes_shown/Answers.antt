use Rattle.std.proofs.Common.{◌+◌, List, [], ◌∷◌, ℕ, ap, drop, get_or, map}
use Rattle.std.proofs.lemmas.List.{at_drop_all}
use Rattle.std.proofs.lemmas.Result.{err_from_is_err_and}
use Rattle.iso_html.proofs.QuoteLemmas.{shown-next}
use Rattle.iso_junit.specs.Escapes.{escaped}
use Rattle.iso_summary.specs.ShownLines.{shown_byte}
use Rattle.iso_tap.proofs.PrinterLemmas.{left_cut, left_end, left_next, prints_as}
use Rattle.iso_html.proofs.quote.bytes_shown.Goals as goal

pub returns-in_err-escaped : goal.returns-in_err-escaped
returns-in_err-escaped g c =
    let bytes = c.args.bytes.now in
    let i = c.loop-byte.byte-index in
    let p = err_from_is_err_and c.from_residual.result c.from_residual.ensures.1 in
    let one = prints_as c.in_err-escaped.ensures (escaped (shown_byte (get_or bytes i 0) ∷ [])) (ap (λ (x : ℕ). escaped (x ∷ [])) c.shown_byte.ensures) in
    rw p.1 (left_cut (escaped (map shown_byte (drop (i + 1) bytes))) _ p.0 (shown-next bytes i c.loop-byte-test.true) c.loop-byte.invariant one)

pub loop-byte-preserved : goal.loop-byte-preserved
loop-byte-preserved g c =
    let bytes = c.args.bytes.now in
    let i = c.loop-byte.byte-index in
    let one = prints_as c.in_ok-escaped.ensures (escaped (shown_byte (get_or bytes i 0) ∷ [])) (ap (λ (x : ℕ). escaped (x ∷ [])) c.shown_byte.ensures) in
    left_next (shown-next bytes i c.loop-byte-test.true) c.loop-byte.invariant one

pub returns : goal.returns
returns g c =
    left_end (rw (at_drop_all (λ (bs : List ℕ). escaped (map shown_byte bs)) c.args.bytes.now c.loop-byte.byte-index c.loop-byte-test.false) at c.loop-byte.invariant)

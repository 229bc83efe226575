use Rattle.std.proofs.Common.{◌+◌, List, [], ◌∷◌, ℕ, ap, drop, get_or, map}
use Rattle.std.proofs.lemmas.List.{at_drop_all}
use Rattle.std.proofs.lemmas.Result.{err_from_is_err_and}
use Rattle.iso_summary.specs.ShownLines.{shown_byte}
use Rattle.iso_tap.proofs.PrinterLemmas.{drop_next, left_cut, left_end, left_next, prints_as}
use Rattle.iso_summary.proofs.shown_line.shown.Goals as goal

pub returns-in_err-bytes : goal.returns-in_err-bytes
returns-in_err-bytes g c =
    let bytes = c.args.bytes.now in
    let i = c.loop-byte.byte-index in
    let p = err_from_is_err_and c.from_residual.result c.from_residual.ensures.1 in
    let next = ap (λ (bs : List ℕ). map shown_byte bs) (drop_next bytes i 0 c.loop-byte-test.true) in
    let one = prints_as c.in_err-bytes.ensures (shown_byte (get_or bytes i 0) ∷ []) (ap (λ (x : ℕ). x ∷ []) c.shown_byte.ensures) in
    rw p.1 (left_cut (map shown_byte (drop (i + 1) bytes)) _ p.0 next c.loop-byte.invariant one)

pub loop-byte-preserved : goal.loop-byte-preserved
loop-byte-preserved g c =
    let bytes = c.args.bytes.now in
    let i = c.loop-byte.byte-index in
    let next = ap (λ (bs : List ℕ). map shown_byte bs) (drop_next bytes i 0 c.loop-byte-test.true) in
    let one = prints_as c.in_ok-bytes.ensures (shown_byte (get_or bytes i 0) ∷ []) (ap (λ (x : ℕ). x ∷ []) c.shown_byte.ensures) in
    left_next next c.loop-byte.invariant one

pub returns : goal.returns
returns g c = left_end (rw (at_drop_all (map shown_byte) c.args.bytes.now c.loop-byte.byte-index c.loop-byte-test.false) at c.loop-byte.invariant)

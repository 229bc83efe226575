use Rattle.std.proofs.Common.{ℕ, Ok, ◌∷◌, [], ap, map}
use Rattle.std.proofs.lemmas.Result.{err_from_is_err_and}
use Rattle.iso_hints.specs.Pictures.{shown_byte}
use Rattle.iso_tap.proofs.PrinterLemmas.{drop_next, left_cut, left_next, prints_as}
use Rattle.iso_explain_plan.proofs.note.shown.Goals as goal

pub returns-in_err-bytes : goal.returns-in_err-bytes
returns-in_err-bytes g c =
    let p = err_from_is_err_and c.from_residual.result c.from_residual.ensures.1 in
    let next = ap (map shown_byte) (drop_next c.args.bytes.now c.loop-byte.byte-index 0 c.loop-byte-test.true) in
    rw p.1 (left_cut _ _ p.0 next c.loop-byte.invariant (prints_as c.in_err-bytes.ensures _ (ap (λ (b : ℕ). b ∷ []) c.shown_byte.ensures)))

pub loop-byte-preserved : goal.loop-byte-preserved
loop-byte-preserved g c =
    let next = ap (map shown_byte) (drop_next c.args.bytes.now c.loop-byte.byte-index 0 c.loop-byte-test.true) in
    left_next next c.loop-byte.invariant (prints_as {r = Ok tt} c.in_ok-bytes.ensures _ (ap (λ (b : ℕ). b ∷ []) c.shown_byte.ensures))

use Rattle.std.proofs.Common.{◌≡◌, List, ℕ, ◌++◌, ◌-◌, take, drop, get_or, length, sym, refl, ap, ◌∙◌, arith}
use Rattle.std.proofs.lemmas.Grind.{common_steps}
use Rattle.std.proofs.lemmas.Result.{err_from_is_err_and}
use Rattle.iso_junit.specs.Escapes.{escaped, escaped_byte}
use Rattle.iso_junit.proofs.EscapeLemmas.{escaped-next, escaped-plain}
use Rattle.iso_tap.proofs.PrinterLemmas.{prints_as, left_next, left_cut, left_last}
use Rattle.iso_junit.proofs.escape.escaped.Goals as goal

pub returns-in_err-bytes : goal.returns-in_err-bytes
returns-in_err-bytes g c =
    let rest = c.loop-plain.rest.now in
    let n = c.loop-plain.plain in
    let p = err_from_is_err_and c.from_residual.result c.from_residual.ensures.1 in
    rw p.1 (left_cut _ _ p.0 (escaped-next n rest c.loop-plain.invariant.plain c.loop-plain-test.true) c.loop-plain.invariant.left
    (prints_as c.in_err-bytes.ensures (take n rest) c.split_at.ensures.front))

pub returns-in_err-escaped_byte : goal.returns-in_err-escaped_byte
returns-in_err-escaped_byte g c =
    let rest = c.loop-plain.rest.now in
    let n = c.loop-plain.plain in
    let left =
    left_next (escaped-next n rest c.loop-plain.invariant.plain c.loop-plain-test.true) c.loop-plain.invariant.left
    (prints_as c.in_ok-bytes.ensures (take n rest) c.split_at.ensures.front) in
    let p = err_from_is_err_and c.from_residual-in_err-escaped_byte.result c.from_residual-in_err-escaped_byte.ensures.1 in
    rw p.1 (left_cut (escaped (drop 1 (drop n rest))) _ p.0 refl left
    (prints_as c.in_err-escaped_byte.ensures _ (ap (λ (s : List ℕ). escaped_byte (get_or s 0 0)) c.split_at.ensures.back)))

pub loop-plain-preserved : goal.loop-plain-preserved
loop-plain-preserved g c =
    let rest = c.loop-plain.rest.now in
    let n = c.loop-plain.plain in
    let tail = c.split_at.result.1.now in
    let special = escaped_byte (get_or (drop n rest) 0 0) in
    let left =
    left_next (escaped-next n rest c.loop-plain.invariant.plain c.loop-plain-test.true) c.loop-plain.invariant.left
    (prints_as c.in_ok-bytes.ensures (take n rest) c.split_at.ensures.front) in
    let after : take (length tail - 1) (drop 1 tail) ≡ drop 1 (drop n rest) =
    let e : take (length tail - 1) (drop 1 tail) ≡ drop 1 tail = grind (arith, common_steps) in
    e ∙ ap (λ (s : List ℕ). drop 1 s) c.split_at.ensures.back in
    record {
      left = left_next (ap (λ (t : List ℕ). special ++ escaped t) (sym after)) left
          (prints_as c.in_ok-escaped_byte.ensures special (ap (λ (s : List ℕ). escaped_byte (get_or s 0 0)) c.split_at.ensures.back));
      plain = c.plain_len-plain-in-loop-plain.ensures;
    }

pub returns : goal.returns
returns g c =
    left_last c.bytes-2.result c.loop-plain.invariant.left
    (prints_as c.bytes-2.ensures (escaped c.loop-plain.rest.now)
    (sym (escaped-plain c.loop-plain.rest.now (omega (arith, c.loop-plain.invariant.plain, c.loop-plain-test.false)))))

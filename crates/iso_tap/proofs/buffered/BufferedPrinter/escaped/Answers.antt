use Rattle.std.proofs.Common.{◌≡◌, List, ℕ, [], ◌∷◌, ◌++◌, ◌-◌, take, drop, get_or, length, sym, refl, ap, ◌∙◌, arith}
use Rattle.std.proofs.lemmas.Grind.{common_steps}
use Rattle.std.proofs.lemmas.Result.{err_from_is_err_and}
use Rattle.iso_tap.specs.Escapes.{with_escapes}
use Rattle.iso_tap.proofs.EscapeLemmas.{with_escapes-plain, with_escapes-next}
use Rattle.iso_tap.proofs.BufferLemmas.{buffers_as, left_next, left_cut, left_last}
use Rattle.iso_tap.proofs.buffered.BufferedPrinter.escaped.Goals as goal

pub returns-in_err-bytes : goal.returns-in_err-bytes
returns-in_err-bytes g c =
    let other = c.args.other in
    let rest = c.loop-plain.rest.now in
    let n = c.loop-plain.plain in
    let after : List ℕ = 92 ∷ get_or (drop n rest) 0 0 ∷ with_escapes other (drop 1 (drop n rest)) in
    let p = err_from_is_err_and c.from_residual.result c.from_residual.ensures.1 in
    rw p.1 (left_cut after _ p.0 (with_escapes-next other n rest c.loop-plain.invariant.plain c.loop-plain-test.true) c.loop-plain.invariant.left
    (buffers_as c.in_err-bytes.ensures (take n rest) c.split_at.ensures.front))

pub returns-in_err-bytes-2 : goal.returns-in_err-bytes-2
returns-in_err-bytes-2 g c =
    let other = c.args.other in
    let rest = c.loop-plain.rest.now in
    let n = c.loop-plain.plain in
    let special : List ℕ = 92 ∷ get_or (drop n rest) 0 0 ∷ [] in
    let left =
    left_next (with_escapes-next other n rest c.loop-plain.invariant.plain c.loop-plain-test.true) c.loop-plain.invariant.left
    (buffers_as c.in_ok-bytes.ensures (take n rest) c.split_at.ensures.front) in
    let p = err_from_is_err_and c.from_residual-in_err-bytes-2.result c.from_residual-in_err-bytes-2.ensures.1 in
    rw p.1 (left_cut (with_escapes other (drop 1 (drop n rest))) _ p.0 refl left
    (buffers_as c.in_err-bytes-2.ensures special (ap (λ (s : List ℕ). 92 ∷ get_or s 0 0 ∷ []) c.split_at.ensures.back)))

pub loop-plain-preserved : goal.loop-plain-preserved
loop-plain-preserved g c =
    let other = c.args.other in
    let rest = c.loop-plain.rest.now in
    let n = c.loop-plain.plain in
    let tail = c.split_at.result.1.now in
    let special : List ℕ = 92 ∷ get_or (drop n rest) 0 0 ∷ [] in
    let left =
    left_next (with_escapes-next other n rest c.loop-plain.invariant.plain c.loop-plain-test.true) c.loop-plain.invariant.left
    (buffers_as c.in_ok-bytes.ensures (take n rest) c.split_at.ensures.front) in
    let after : take (length tail - 1) (drop 1 tail) ≡ drop 1 (drop n rest) =
    let e : take (length tail - 1) (drop 1 tail) ≡ drop 1 tail = grind (arith, common_steps) in
    e ∙ ap (λ (s : List ℕ). drop 1 s) c.split_at.ensures.back in
    record {
      left = left_next (ap (λ (t : List ℕ). special ++ with_escapes other t) (sym after)) left
          (buffers_as c.in_ok-bytes-2.ensures special (ap (λ (s : List ℕ). 92 ∷ get_or s 0 0 ∷ []) c.split_at.ensures.back));
      plain = c.plain_len-plain-in-loop-plain.ensures;
    }

pub returns : goal.returns
returns g c =
    left_last c.bytes-2.result c.loop-plain.invariant.left
    (buffers_as c.bytes-2.ensures (with_escapes c.args.other c.loop-plain.rest.now)
    (sym (with_escapes-plain c.args.other c.loop-plain.rest.now (omega (arith, c.loop-plain.invariant.plain, c.loop-plain-test.false)))))

use Rattle.std.proofs.Common.{◌≤◌, ◌-◌, ℕ, replicate, take, refl}
use Rattle.std.proofs.Math.Nat.{min-le_left, min-le_right}
use Rattle.std.proofs.lemmas.Result.{err_from_is_err_and}
use Rattle.iso_tap.proofs.BufferLemmas.{left_next, left_cut, buffers_as}
use Rattle.iso_tap.proofs.PrinterLemmas.{spaces_next}
use Rattle.iso_tap.proofs.buffered.BufferedPrinter.spaces.Goals as goal

pub returns-in_err-bytes : goal.returns-in_err-bytes
returns-in_err-bytes g c =
    let n = c.min-run.result in
    let left = c.loop-left.left in
    let space : ℕ = 32 in
    let within : n ≤ left = rw c.min-run.ensures (min-le_left left 64) in
    let few : n ≤ 64 = rw c.min-run.ensures (min-le_right left 64) in
    let p = err_from_is_err_and c.from_residual.result c.from_residual.ensures.1 in
    rw p.1 (left_cut (replicate (left - n) space) _ p.0 (spaces_next n left 64 within few) c.loop-left.invariant (buffers_as c.in_err-bytes.ensures (take n (replicate 64 space)) refl))

pub loop-left-preserved : goal.loop-left-preserved
loop-left-preserved g c =
    let n = c.min-run.result in
    let left = c.loop-left.left in
    let space : ℕ = 32 in
    let within : n ≤ left = rw c.min-run.ensures (min-le_left left 64) in
    let few : n ≤ 64 = rw c.min-run.ensures (min-le_right left 64) in
    left_next (spaces_next n left 64 within few) c.loop-left.invariant (buffers_as c.in_ok-bytes.ensures (take n (replicate 64 space)) refl)

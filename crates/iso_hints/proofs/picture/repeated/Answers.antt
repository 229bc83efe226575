use Rattle.std.proofs.Common.{◌≡◌, arith}
use Rattle.std.proofs.lemmas.Result.{err_from_is_err_and}
use Rattle.iso_tap.proofs.PrinterLemmas.{left_cut, left_end, left_next}
use Rattle.iso_hints.proofs.PictureLemmas.{replicate-next}
use Rattle.iso_hints.proofs.picture.repeated.Goals as goal

pub returns-in_err-bytes : goal.returns-in_err-bytes
returns-in_err-bytes g c =
    let p = err_from_is_err_and c.from_residual.result c.from_residual.ensures.1 in
    rw p.1 (left_cut _ _ p.0 (replicate-next c.loop-left.left c.args.byte c.loop-left-test.true) c.loop-left.invariant c.in_err-bytes.ensures)

pub loop-left-preserved : goal.loop-left-preserved
loop-left-preserved g c =
    left_next (replicate-next c.loop-left.left c.args.byte c.loop-left-test.true) c.loop-left.invariant c.in_ok-bytes.ensures

pub returns : goal.returns
returns g c = let none : c.loop-left.left ≡ 0 = omega arith in left_end (rw none at c.loop-left.invariant)

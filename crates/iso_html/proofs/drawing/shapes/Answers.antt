use Rattle.std.proofs.Common.{List, ap, flat_map}
use Rattle.std.proofs.lemmas.Result.{err_from_is_err_and}
use Rattle.iso_html.specs.PictureText.{shape_text}
use Rattle.iso_html.specs.declared.shape.Shape.{Shape}
use Rattle.iso_junit.specs.Runs.{run_of}
use Rattle.iso_tap.proofs.PrinterLemmas.{drop_next, left_cut, left_next}
use Rattle.iso_html.proofs.drawing.shapes.Goals as goal

pub returns-in_err-shape : goal.returns-in_err-shape
returns-in_err-shape g c =
    let p = err_from_is_err_and c.from_residual.result c.from_residual.ensures.1 in
    let next = ap (λ (xs : List Shape). flat_map (shape_text (run_of c.args.run.now) c.args.span) xs) (drop_next c.args.shapes.now c.loop-piece.piece-index _ c.loop-piece-test.true) in
    rw p.1 (left_cut _ _ p.0 next c.loop-piece.invariant c.in_err-shape.ensures)

pub loop-piece-preserved : goal.loop-piece-preserved
loop-piece-preserved g c =
    let next = ap (λ (xs : List Shape). flat_map (shape_text (run_of c.args.run.now) c.args.span) xs) (drop_next c.args.shapes.now c.loop-piece.piece-index _ c.loop-piece-test.true) in
    left_next next c.loop-piece.invariant c.in_ok-shape.ensures

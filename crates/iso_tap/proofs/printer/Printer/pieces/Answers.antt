use Rattle.std.proofs.Common.{ap}
use Rattle.std.proofs.lemmas.Result.{err_from_is_err_and}
use Rattle.iso_tap.specs.Pieces.{pieces_text}
use Rattle.iso_tap.proofs.PrinterLemmas.{drop_next, left_next, left_cut}
use Rattle.iso_tap.proofs.printer.Printer.pieces.Goals as goal

pub returns-in_err-piece : goal.returns-in_err-piece
returns-in_err-piece g c =
    let p = err_from_is_err_and c.from_residual.result c.from_residual.ensures.1 in
    rw p.1 (left_cut _ _ p.0 (ap pieces_text (drop_next c.args.pieces.now c.loop-piece.piece-index _ c.loop-piece-test.true)) c.loop-piece.invariant c.in_err-piece.ensures)

pub loop-piece-preserved : goal.loop-piece-preserved
loop-piece-preserved g c =
    left_next (ap pieces_text (drop_next c.args.pieces.now c.loop-piece.piece-index _ c.loop-piece-test.true)) c.loop-piece.invariant c.in_ok-piece.ensures

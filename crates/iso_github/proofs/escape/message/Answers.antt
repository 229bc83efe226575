use Rattle.std.proofs.Common.{ap}
use Rattle.std.proofs.lemmas.Result.{err_from_is_err_and}
use Rattle.iso_github.specs.Commands.{in_message}
use Rattle.iso_tap.proofs.PrinterLemmas.{drop_next, left_cut, left_next}
use Rattle.iso_github.proofs.escape.message.Goals as goal

pub returns-in_err-message_byte : goal.returns-in_err-message_byte
returns-in_err-message_byte g c =
    let p = err_from_is_err_and c.from_residual.result c.from_residual.ensures.1 in
    rw p.1 (left_cut _ _ p.0 (ap in_message (drop_next c.args.text.now c.loop-byte.byte-index 0 c.loop-byte-test.true)) c.loop-byte.invariant c.in_err-message_byte.ensures)

pub loop-byte-preserved : goal.loop-byte-preserved
loop-byte-preserved g c =
    left_next (ap in_message (drop_next c.args.text.now c.loop-byte.byte-index 0 c.loop-byte-test.true)) c.loop-byte.invariant c.in_ok-message_byte.ensures

use Rattle.std.proofs.Common.{Ok, codes, cond, ◌∙◌}
use Rattle.std.specs.Fmt.{decimal}
use Rattle.iso_tap.proofs.BufferLemmas.{buffers_as, buffers_cut, buffers_stopped, buffers_then}
use Rattle.iso_tap.proofs.buffered.BufferedPrinter.point_start.Goals as goal

pub returns-in_err-spaces : goal.returns-in_err-spaces
returns-in_err-spaces g c =
    buffers_stopped (codes " - ") _ c.from_residual.ensures.0
    (buffers_cut (decimal c.args.number) _ _ (buffers_cut (cond c.args.ok (codes "ok ") (codes "not ok ")) _ _ c.in_err-spaces.ensures))

pub returns-in_err-bytes : goal.returns-in_err-bytes
returns-in_err-bytes g c =
    let word = c.as_bytes.ensures.value ∙ c.answer.ensures in
    buffers_stopped (codes " - ") _ c.from_residual-in_err-bytes.ensures.0
    (buffers_cut (decimal c.args.number) _ _ (buffers_then _ c.in_ok-spaces.ensures (buffers_as c.in_err-bytes.ensures _ word)))

pub returns-in_err-number : goal.returns-in_err-number
returns-in_err-number g c =
    let word = c.as_bytes.ensures.value ∙ c.answer.ensures in
    buffers_stopped (codes " - ") _ c.from_residual-in_err-number.ensures.0
    (buffers_then _ (buffers_then (Ok tt) c.in_ok-spaces.ensures (buffers_as c.in_ok-bytes.ensures _ word)) c.in_err-number.ensures)

pub returns : goal.returns
returns g c =
    let word = c.as_bytes.ensures.value ∙ c.answer.ensures in
    buffers_then _ (buffers_then (Ok tt) (buffers_then (Ok tt) c.in_ok-spaces.ensures (buffers_as c.in_ok-bytes.ensures _ word)) c.in_ok-number.ensures) c.bytes-2.ensures

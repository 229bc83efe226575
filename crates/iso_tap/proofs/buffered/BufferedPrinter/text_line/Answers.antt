use Rattle.std.proofs.Common.{Ok, codes}
use Rattle.iso_tap.proofs.BufferLemmas.{buffers_stopped, buffers_then}
use Rattle.iso_tap.proofs.buffered.BufferedPrinter.text_line.Goals as goal

pub returns-in_err-bytes : goal.returns-in_err-bytes
returns-in_err-bytes g c =
    buffers_stopped (codes "\n") _ c.from_residual-in_err-bytes.ensures.0 (buffers_then _ c.in_ok-spaces.ensures c.in_err-bytes.ensures)

pub returns : goal.returns
returns g c = buffers_then _ (buffers_then (Ok tt) c.in_ok-spaces.ensures c.in_ok-bytes.ensures) c.bytes-2.ensures

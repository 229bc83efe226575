use Rattle.std.proofs.Common.{◌≡◌, ◌∙◌}
use Rattle.iso_tap.specs.Escapes.{escaped}
use Rattle.iso_tap.proofs.BufferLemmas.{buffers_stopped, buffers_then}
use Rattle.iso_tap.proofs.buffered.BufferedPrinter.skipped.Goals as goal

pub returns-in_err-bytes : goal.returns-in_err-bytes
returns-in_err-bytes g c = buffers_stopped (escaped c.args.note.now.message) _ c.from_residual.ensures.0 c.in_err-bytes.ensures

pub returns : goal.returns
returns g c =
    let same : c.as_bytes.result.now ≡ c.args.note.now.message = c.as_bytes.ensures.value ∙ c.as_str.ensures in
    buffers_then _ c.in_ok-bytes.ensures (rw same at c.escaped.ensures)

use Rattle.std.proofs.Common.{◌≡◌, ◌∙◌}
use Rattle.iso_tap.proofs.BufferLemmas.{buffers_then}
use Rattle.iso_tap.proofs.buffered.BufferedPrinter.note.Goals as goal

pub returns : goal.returns
returns g c =
    let same : c.as_bytes.result.now ≡ c.args.note.now.message = c.as_bytes.ensures.value ∙ c.as_str.ensures in
    buffers_then _ (rw same at c.in_ok-quoted_line.ensures) c.line.ensures

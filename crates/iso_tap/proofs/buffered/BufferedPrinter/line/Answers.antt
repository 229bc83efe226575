use Rattle.std.proofs.Common.{refl}
use Rattle.iso_tap.specs.Pieces.{pieces_text}
use Rattle.iso_tap.specs.ReportLines.{line_at}
use Rattle.iso_tap.proofs.BufferLemmas.{buffers_past, buffers_unflushed}
use Rattle.iso_tap.proofs.buffered.BufferedPrinter.line.Goals as goal

pub returns-in_err-flush : goal.returns-in_err-flush
returns-in_err-flush g c =
    buffers_unflushed (line_at c.args.indent (pieces_text c.args.pieces.now)) _ c.from_residual.ensures.0 c.in_err-flush.ensures.prints

pub returns : goal.returns
returns g c =
    let past = c.line_to-result.ensures in
    buffers_past _ c.in_ok-flush.ensures.prints (record { sink = refl; wrote = past.wrote; cut = past.cut; counted = past.counted }) c.in_ok-flush.ensures.empty

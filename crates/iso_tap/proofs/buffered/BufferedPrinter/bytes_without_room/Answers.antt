use Rattle.std.proofs.Common.{refl, ap, ◌∙◌}
use Rattle.iso_tap.proofs.BufferLemmas.{buffers_past, buffers_unflushed}
use Rattle.iso_tap.proofs.buffered.BufferedPrinter.bytes_without_room.Goals as goal

pub returns-in_err-flush : goal.returns-in_err-flush
returns-in_err-flush g c = buffers_unflushed c.args.bytes.now _ c.from_residual.ensures.0 c.in_err-flush.ensures.prints

pub returns-in-Err : goal.returns-in-Err
returns-in-Err g c =
    let past = c.bytes_to-result.ensures in
    buffers_past _ c.in_ok-flush.ensures.prints (record { sink = refl; wrote = past.wrote; cut = past.cut; counted = past.counted })
    (ap (λ v. v.items) c.in-Err.ensures.err ∙ c.in_ok-flush.ensures.empty)

use Rattle.std.proofs.Common.{List, ℕ, ap, ◌∙◌}
use Rattle.iso_tap.specs.ReportBlocks.{note_lines}
use Rattle.iso_tap.specs.ReportLines.{line_at}
use Rattle.iso_tap.proofs.BufferLemmas.{buffers_as, buffers_then}
use Rattle.iso_tap.proofs.buffered.BufferedPrinter.verdict.Goals as goal

pub returns-in-Some : goal.returns-in-Some
returns-in-Some g c =
    let text = ap (λ (t : List ℕ). line_at c.args.indent t) (c.as_bytes.ensures.value ∙ c.verdict_text.ensures) in
    buffers_then _ (buffers_as c.in_ok-text_line.ensures _ text) (buffers_as c.note-in-Some.ensures _ (ap (note_lines c.args.indent) c.in-Some.ensures))

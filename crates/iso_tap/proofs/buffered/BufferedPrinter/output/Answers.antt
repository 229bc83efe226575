use Rattle.std.proofs.Common.{◌+◌, Ok, sym, ◌∙◌}
use Rattle.iso_model.specs.LinesView.{lines_in}
use Rattle.iso_tap.specs.ReportBlocks.{item_lines}
use Rattle.iso_tap.proofs.BlockLemmas.{output-lines}
use Rattle.iso_tap.proofs.BufferLemmas.{buffers_cut, buffers_stopped, buffers_then}
use Rattle.iso_tap.proofs.buffered.BufferedPrinter.output.Goals as goal

pub returns-in_err-text_line : goal.returns-in_err-text_line
returns-in_err-text_line g c =
    let indent = c.args.indent in
    let ls = lines_in c.args.outcome.lines in
    let ms = lines_in c.args.outcome.more in
    rw (output-lines indent ls ms (sym c.printed_nothing.ensures ∙ c.if-printed_nothing.false))
    (buffers_stopped (item_lines (indent + 2) ms) _ c.from_residual.ensures.0 (buffers_cut (item_lines (indent + 2) ls) _ _ c.in_err-text_line.ensures))

pub returns-in_err-items : goal.returns-in_err-items
returns-in_err-items g c =
    let indent = c.args.indent in
    let ls = lines_in c.args.outcome.lines in
    let ms = lines_in c.args.outcome.more in
    rw (output-lines indent ls ms (sym c.printed_nothing.ensures ∙ c.if-printed_nothing.false))
    (buffers_stopped (item_lines (indent + 2) ms) _ c.from_residual-in_err-items.ensures.0 (buffers_then _ c.in_ok-text_line.ensures c.in_err-items.ensures))

pub returns : goal.returns
returns g c =
    rw (output-lines c.args.indent (lines_in c.args.outcome.lines) (lines_in c.args.outcome.more) (sym c.printed_nothing.ensures ∙ c.if-printed_nothing.false))
    (buffers_then _ (buffers_then (Ok tt) c.in_ok-text_line.ensures c.in_ok-items.ensures) c.items-2.ensures)

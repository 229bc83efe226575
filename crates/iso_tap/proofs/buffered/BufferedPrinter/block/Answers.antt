use Rattle.std.proofs.Common.{Ok, codes}
use Rattle.iso_lifecycle.specs.ResultViews.{outcome_of_view}
use Rattle.iso_tap.specs.ReportBlocks.{output_lines, verdict_lines}
use Rattle.iso_tap.specs.ReportLines.{line_at}
use Rattle.iso_tap.proofs.BufferLemmas.{buffers_cut, buffers_stopped, buffers_then}
use Rattle.iso_tap.proofs.buffered.BufferedPrinter.block.Goals as goal

pub returns-in_err-text_line : goal.returns-in_err-text_line
returns-in_err-text_line g c =
    let o = outcome_of_view c.args.outcome in
    buffers_stopped (line_at c.args.indent (codes "...")) _ c.from_residual.ensures.0
    (buffers_cut (output_lines c.args.indent o.output) _ _ (buffers_cut (verdict_lines c.args.indent o.verdict) _ _ c.in_err-text_line.ensures))

pub returns-in_err-verdict : goal.returns-in_err-verdict
returns-in_err-verdict g c =
    buffers_stopped (line_at c.args.indent (codes "...")) _ c.from_residual-in_err-verdict.ensures.0
    (buffers_cut (output_lines c.args.indent (outcome_of_view c.args.outcome).output) _ _ (buffers_then _ c.in_ok-text_line.ensures c.in_err-verdict.ensures))

pub returns-in_err-output : goal.returns-in_err-output
returns-in_err-output g c =
    buffers_stopped (line_at c.args.indent (codes "...")) _ c.from_residual-in_err-output.ensures.0
    (buffers_then _ (buffers_then (Ok tt) c.in_ok-text_line.ensures c.in_ok-verdict.ensures) c.in_err-output.ensures)

pub returns : goal.returns
returns g c =
    buffers_then _ (buffers_then (Ok tt) (buffers_then (Ok tt) c.in_ok-text_line.ensures c.in_ok-verdict.ensures) c.in_ok-output.ensures) c.text_line-2.ensures

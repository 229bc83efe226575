use Rattle.std.proofs.Common.{◌≡◌, ◌+◌, [], false, cond, sym, ◌∙◌}
use Rattle.iso_lifecycle.specs.ResultViews.{outcome_of_view}
use Rattle.iso_tap.specs.ReportBlocks.{block_lines, is_silent}
use Rattle.iso_tap.proofs.BufferLemmas.{buffers_stopped, buffers_then}
use Rattle.iso_tap.proofs.buffered.BufferedPrinter.point.Goals as goal

pub returns-in_err-point_line : goal.returns-in_err-point_line
returns-in_err-point_line g c =
    let o = outcome_of_view c.args.outcome in
    buffers_stopped (cond (is_silent o.verdict o.output) [] (block_lines (c.args.indent + 2) o)) _ c.from_residual.ensures.0 c.in_err-point_line.ensures

pub returns : goal.returns
returns g c =
    let o = outcome_of_view c.args.outcome in
    let told : is_silent o.verdict o.output ≡ false = sym c.is_silent.ensures ∙ c.if-is_silent.false in
    rw told (buffers_then _ c.in_ok-point_line.ensures c.block.ensures)

use Rattle.iso_lifecycle.specs.ResultViews.{outcome_in}
use Rattle.iso_plan.specs.Paths.{children}
use Rattle.iso_plan.specs.RowView.{tree_of}
use Rattle.iso_tap.specs.Reports.{level, reported}
use Rattle.iso_tap.proofs.BufferLemmas.{buffers_failed, buffers_stopped, buffers_then}
use Rattle.iso_tap.proofs.buffered.BufferedPrinter.levels.Goals as goal

pub returns-in_err-text_line : goal.returns-in_err-text_line
returns-in_err-text_line g c =
    let tree = tree_of c.args.plan.now in
    buffers_stopped (level 0 (reported tree (outcome_in c.args.results.now) 0) (children tree 0)) _ c.from_residual.ensures.0 c.in_err-text_line.ensures

pub returns-in_err-level : goal.returns-in_err-level
returns-in_err-level g c = buffers_then _ c.in_ok-text_line.ensures (buffers_failed _ c.from_residual-in_err-level.ensures.0 c.in_err-level.ensures.prints)

pub returns : goal.returns
returns g c = buffers_then _ c.in_ok-text_line.ensures c.in_ok-level.ensures.prints

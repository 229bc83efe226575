use Rattle.std.proofs.Common.{ap}
use Rattle.std.proofs.lemmas.Result.{err_from_is_err_and}
use Rattle.iso_tap.specs.ReportBlocks.{item_lines}
use Rattle.iso_tap.proofs.BufferLemmas.{left_cut, left_next, left_whole}
use Rattle.iso_tap.proofs.buffered.BufferedPrinter.items.Goals as goal

pub lines-init : goal.lines-init
lines-init g c = left_whole c.args.self.now _

pub returns-in_err-quoted_line : goal.returns-in_err-quoted_line
returns-in_err-quoted_line g c =
    let p = err_from_is_err_and c.from_residual.result c.from_residual.ensures.1 in
    rw p.1 (left_cut _ _ p.0 (ap (item_lines c.args.indent) c.in-Some.ensures) c.lines.invariant c.in_err-quoted_line.ensures)

pub lines-preserved : goal.lines-preserved
lines-preserved g c = left_next (ap (item_lines c.args.indent) c.in-Some.ensures) c.lines.invariant c.in_ok-quoted_line.ensures

use Rattle.std.proofs.Common.{ap}
use Rattle.std.proofs.lemmas.Result.{err_from_is_err_and}
use Rattle.iso_junit.specs.Elements.{lines_text}
use Rattle.iso_tap.proofs.PrinterLemmas.{left_next, left_cut}
use Rattle.iso_junit.proofs.writing.all_lines.Goals as goal

pub returns-in_err-line : goal.returns-in_err-line
returns-in_err-line g c =
    let p = err_from_is_err_and c.from_residual.result c.from_residual.ensures.1 in
    rw p.1 (left_cut _ _ p.0 (ap lines_text c.in-Some.ensures) c.lines.invariant c.in_err-line.ensures)

pub lines-preserved : goal.lines-preserved
lines-preserved g c = left_next (ap lines_text c.in-Some.ensures) c.lines.invariant c.in_ok-line.ensures

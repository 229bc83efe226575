use Rattle.std.proofs.Common.{List, ap, map}
use Rattle.std.proofs.lemmas.Result.{err_from_is_err_and}
use Rattle.iso_plan.specs.RowView.{tree_of}
use Rattle.iso_stats.specs.Parts.{joined}
use Rattle.iso_stats.specs.StatsText.{line_text}
use Rattle.iso_stats.specs.declared.text.Line.{Line}
use Rattle.iso_tap.proofs.PrinterLemmas.{drop_next, left_cut, left_next}
use Rattle.iso_stats.proofs.text.lines.Goals as goal

pub returns-in_err-write_line : goal.returns-in_err-write_line
returns-in_err-write_line g c =
    let p = err_from_is_err_and c.from_residual.result c.from_residual.ensures.1 in
    let next = ap (λ (xs : List Line). joined (map (line_text (tree_of c.args.plan.now)) xs)) (drop_next c.args.lines.now c.loop-line.line-index _ c.loop-line-test.true) in
    rw p.1 (left_cut _ _ p.0 next c.loop-line.invariant c.in_err-write_line.ensures)

pub loop-line-preserved : goal.loop-line-preserved
loop-line-preserved g c =
    let next = ap (λ (xs : List Line). joined (map (line_text (tree_of c.args.plan.now)) xs)) (drop_next c.args.lines.now c.loop-line.line-index _ c.loop-line-test.true) in
    left_next next c.loop-line.invariant c.in_ok-write_line.ensures

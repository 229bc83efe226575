use Rattle.std.proofs.Common.{List, ap, flat_map}
use Rattle.std.proofs.lemmas.Result.{err_from_is_err_and}
use Rattle.iso_html.specs.Sections.{slow_line}
use Rattle.iso_html.specs.declared.slowest.Timed.{Timed}
use Rattle.iso_plan.specs.RowView.{tree_of}
use Rattle.iso_tap.proofs.PrinterLemmas.{drop_next, left_cut, left_next}
use Rattle.iso_html.proofs.section.slowest.Goals as goal

pub returns-in_err-slow_line : goal.returns-in_err-slow_line
returns-in_err-slow_line g c =
    let p = err_from_is_err_and c.from_residual.result c.from_residual.ensures.1 in
    let next = ap (λ (xs : List Timed). flat_map (slow_line (tree_of c.args.plan.now)) xs) (drop_next c.args.slowest.now c.loop-timed.timed-index _ c.loop-timed-test.true) in
    rw p.1 (left_cut _ _ p.0 next c.loop-timed.invariant c.in_err-slow_line.ensures)

pub loop-timed-preserved : goal.loop-timed-preserved
loop-timed-preserved g c =
    let next = ap (λ (xs : List Timed). flat_map (slow_line (tree_of c.args.plan.now)) xs) (drop_next c.args.slowest.now c.loop-timed.timed-index _ c.loop-timed-test.true) in
    left_next next c.loop-timed.invariant c.in_ok-slow_line.ensures

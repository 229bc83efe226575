use Rattle.std.proofs.Common.{◌+◌, Ok, Err, length, sym, arith}
use Rattle.std.proofs.lemmas.Result.{err_from_is_err_and}
use Rattle.iso_lifecycle.specs.ResultViews.{outcome_in}
use Rattle.iso_plan.specs.RowView.{tree_of}
use Rattle.iso_failures.specs.Failures.{is_failure, path_line}
use Rattle.iso_tap.proofs.PrinterLemmas.{prints_as, prints_cut, prints_then}
use Rattle.iso_failures.proofs.TextLemmas.{lines_below, lines-next, lines-rest}
use Rattle.iso_failures.proofs.text.lines.Goals as goal

pub returns-in_err-line : goal.returns-in_err-line
returns-in_err-line g c =
    let path = path_line (tree_of c.args.plan.now) in
    let fails = is_failure (outcome_in c.args.results.now) in
    let n = c.nodes.node in
    let p = err_from_is_err_and c.from_residual.result c.from_residual.ensures.1 in
    let rest = lines-rest path fails (n + 1) (length c.args.plan.now.rows) (omega (arith, c.len-node-end.ensures)) in
    let here = prints_as (prints_then (Err p.0) c.nodes.invariant c.in_err-line.ensures) (lines_below path fails (n + 1)) (sym (lines-next path fails n)) in
    rw p.1 (prints_as (prints_cut rest.rest _ p.0 here) _ (sym rest.is))

pub nodes-preserved : goal.nodes-preserved
nodes-preserved g c =
    let path = path_line (tree_of c.args.plan.now) in
    let fails = is_failure (outcome_in c.args.results.now) in
    prints_as (prints_then (Ok tt) c.nodes.invariant c.in_ok-line.ensures) _ (sym (lines-next path fails c.nodes.node))

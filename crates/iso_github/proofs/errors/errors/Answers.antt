use Rattle.std.proofs.Common.{◌<◌, ◌≤◌, length, arith}
use Rattle.std.proofs.lemmas.Result.{err_from_is_err_and}
use Rattle.iso_github.proofs.ErrorLemmas.{errors-end, errors-next}
use Rattle.iso_lifecycle.specs.ResultViews.{outcome_in}
use Rattle.iso_plan.specs.RowView.{tree_of}
use Rattle.iso_tap.proofs.PrinterLemmas.{left_cut, left_end, left_next}
use Rattle.iso_github.proofs.errors.errors.Goals as goal

pub returns-in_err-error : goal.returns-in_err-error
returns-in_err-error g c =
    let n = c.nodes.node in
    let within : n < length c.args.plan.now.rows = omega (arith, c.len-node-end.ensures) in
    let there : n < length c.args.places.now = omega arith in
    let p = err_from_is_err_and c.from_residual.result c.from_residual.ensures.1 in
    let next = errors-next (tree_of c.args.plan.now) (outcome_in c.args.results.now) c.args.places.now n _ _ within there c.verdict.ensures in
    rw p.1 (left_cut _ _ p.0 next c.nodes.invariant c.in_err-error.ensures)

pub nodes-preserved : goal.nodes-preserved
nodes-preserved g c =
    let n = c.nodes.node in
    let within : n < length c.args.plan.now.rows = omega (arith, c.len-node-end.ensures) in
    let there : n < length c.args.places.now = omega arith in
    let next = errors-next (tree_of c.args.plan.now) (outcome_in c.args.results.now) c.args.places.now n _ _ within there c.verdict.ensures in
    left_next next c.nodes.invariant c.in_ok-error.ensures

pub returns : goal.returns
returns g c =
    let past : length c.args.plan.now.rows ≤ c.nodes.node = omega (arith, c.len-node-end.ensures) in
    let none = errors-end (tree_of c.args.plan.now) (outcome_in c.args.results.now) c.args.places.now c.nodes.node past in
    left_end (rw none at c.nodes.invariant)

use Rattle.std.proofs.Common.{◌<◌, length, arith}
use Rattle.std.proofs.lemmas.Result.{err_from_is_err_and}
use Rattle.iso_placed_plan.proofs.PlacedLemmas.{each-next}
use Rattle.iso_plan.specs.RowView.{tree_of}
use Rattle.iso_plan.specs.KeptNodes.{texts_of}
use Rattle.iso_tap.proofs.PrinterLemmas.{left_cut, left_next}
use Rattle.iso_why.specs.PlanWhy.{test_why}
use Rattle.iso_why.proofs.plan.tests_why.Goals as goal

pub returns-in_err-test_why : goal.returns-in_err-test_why
returns-in_err-test_why g c =
    let plan = c.args.plan.now in
    let here : c.nodes.node < length plan.rows = omega arith in
    let line = test_why (tree_of plan) plan.settings c.args.sites.now (texts_of c.args.names.now) in
    let next = each-next line (length plan.rows) c.nodes.node here in
    let p = err_from_is_err_and c.from_residual.result c.from_residual.ensures.1 in
    rw p.1 (left_cut _ _ p.0 next c.nodes.invariant c.in_err-test_why.ensures)

pub nodes-preserved : goal.nodes-preserved
nodes-preserved g c =
    let plan = c.args.plan.now in
    let here : c.nodes.node < length plan.rows = omega arith in
    let line = test_why (tree_of plan) plan.settings c.args.sites.now (texts_of c.args.names.now) in
    left_next (each-next line (length plan.rows) c.nodes.node here) c.nodes.invariant c.in_ok-test_why.ensures

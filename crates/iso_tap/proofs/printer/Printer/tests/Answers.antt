use Rattle.std.proofs.Common.{◌<◌, length, arith}
use Rattle.std.proofs.lemmas.Result.{err_from_is_err_and}
use Rattle.iso_plan.specs.RowView.{tree_of}
use Rattle.iso_tap.proofs.PlanLemmas.{tests-next}
use Rattle.iso_tap.proofs.PrinterLemmas.{left_next, left_cut}
use Rattle.iso_tap.proofs.printer.Printer.tests.Goals as goal

pub returns-in_err-test : goal.returns-in_err-test
returns-in_err-test g c =
    let plan = c.args.plan.now in
    let here : c.nodes.node < length plan.rows = omega arith in
    let p = err_from_is_err_and c.from_residual.result c.from_residual.ensures.1 in
    rw p.1 (left_cut _ _ p.0 (tests-next (tree_of plan) plan.settings (length plan.rows) c.nodes.node here) c.nodes.invariant c.in_err-test.ensures)

pub nodes-preserved : goal.nodes-preserved
nodes-preserved g c =
    let plan = c.args.plan.now in
    let here : c.nodes.node < length plan.rows = omega arith in
    left_next (tests-next (tree_of plan) plan.settings (length plan.rows) c.nodes.node here) c.nodes.invariant c.in_ok-test.ensures

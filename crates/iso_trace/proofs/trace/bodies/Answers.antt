use Rattle.std.proofs.Common.{◌<◌, length, arith}
use Rattle.std.proofs.lemmas.Result.{err_from_is_err_and}
use Rattle.iso_plan.specs.RowView.{tree_of}
use Rattle.iso_tap.proofs.PrinterLemmas.{left_cut, left_next}
use Rattle.iso_trace.proofs.TraceLemmas.{bodies-next}
use Rattle.iso_trace.proofs.trace.bodies.Goals as goal

pub returns-in_err-node_events : goal.returns-in_err-node_events
returns-in_err-node_events g c =
    let run = c.args.run.now in
    let here : c.nodes.node < length run.plan.now.rows = omega arith in
    let p = err_from_is_err_and c.from_residual.result c.from_residual.ensures.1 in
    rw p.1 (left_cut _ _ p.0 (bodies-next (tree_of run.plan.now) run.times.now run.results.now run.critical.now (length run.plan.now.rows) c.nodes.node here) c.nodes.invariant
    c.in_err-node_events.ensures)

pub nodes-preserved : goal.nodes-preserved
nodes-preserved g c =
    let run = c.args.run.now in
    let here : c.nodes.node < length run.plan.now.rows = omega arith in
    left_next (bodies-next (tree_of run.plan.now) run.times.now run.results.now run.critical.now (length run.plan.now.rows) c.nodes.node here) c.nodes.invariant c.in_ok-node_events.ensures

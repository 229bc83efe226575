use Rattle.std.proofs.Common.{◌≡◌, ◌≤◌, ◌<◌, ◌-◌, filter, length, map, max, ◌∙◌, arith}
use Rattle.std.specs.List.{range_with_len}
use Rattle.iso_conflicts.proofs.RangeLemmas.{largest-fits, largest-step, not-more}
use Rattle.iso_conflicts.proofs.TestLemmas.{tests-few}
use Rattle.iso_conflicts.specs.Chains.{tests_in}
use Rattle.iso_conflicts.specs.Takers.{takers, takes}
use Rattle.iso_model.specs.declared.access.Access.TheVariants.{Read}
use Rattle.iso_plan.specs.NodeChains.{largest}
use Rattle.iso_plan.specs.RowView.{tree_of}
use Rattle.iso_conflicts.proofs.chains.most_read.Goals as goal

pub nodes-preserved : goal.nodes-preserved
nodes-preserved c =
    let plan = c.args.plan.now in
    let tree = tree_of plan in
    let here : c.nodes.node < length plan.rows = omega arith in
    largest-step (takes tree Read c.args.key) (tests_in tree) (length plan.rows) c.nodes.node here c.nodes.most c.taker_tests.result c.max-most.result
    (largest (map (tests_in tree) (takers tree Read c.args.key))) c.taker_tests.ensures c.max-most.ensures c.nodes.invariant

pub returns-clause-fits : goal.returns-clause-fits
returns-clause-fits c =
    let plan = c.args.plan.now in
    let tree = tree_of plan in
    let all : largest (map (tests_in tree) (takers tree Read c.args.key)) ≤ length plan.rows =
    largest-fits (tests_in tree) (length plan.rows) (tests-few tree) (takers tree Read c.args.key) in
    not-more c.nodes.most (largest (map (tests_in tree) (filter (takes tree Read c.args.key) (range_with_len c.nodes.node (length plan.rows - c.nodes.node)))))
    _ (length plan.rows) c.nodes.invariant all

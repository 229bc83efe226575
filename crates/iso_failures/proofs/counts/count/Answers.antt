use Rattle.std.proofs.Common.{◌<◌, ◌∙◌, length, arith}
use Rattle.iso_lifecycle.specs.ResultViews.{outcome_in, verdict_of_view}
use Rattle.iso_plan.specs.RowView.{tree_of}
use Rattle.iso_failures.proofs.CountLemmas.{counts-next, counts-small}
use Rattle.iso_failures.proofs.counts.count.Goals as goal

pub add-requires : goal.add-requires
add-requires c =
    let less : c.nodes.node < 4294967295 = omega (arith, c.len-node-end.ensures) in
    counts-small (tree_of c.args.plan.now) (outcome_in c.args.results.now) c.nodes.counts c.nodes.node 4294967295 c.nodes.invariant less

pub nodes-preserved : goal.nodes-preserved
nodes-preserved c =
    let tree = tree_of c.args.plan.now in
    let within : c.nodes.node < length tree = omega (arith, c.len-node-end.ensures) in
    c.add.ensures
    ∙ counts-next tree (outcome_in c.args.results.now) c.nodes.counts c.nodes.node c.is_test.result (verdict_of_view c.verdict.result) c.nodes.invariant c.is_test.ensures c.verdict.ensures
    (c.nodes_are_a_tree.ensures.full c.nodes.node (omega arith) within)

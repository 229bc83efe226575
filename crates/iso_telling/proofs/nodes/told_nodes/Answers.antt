use Rattle.std.proofs.Common.{sym, subst, ◌∙◌, arith}
use Rattle.std.specs.List.{All}
use Rattle.iso_lifecycle.specs.ResultViews.{outcome_in}
use Rattle.iso_plan.proofs.NumberLemmas.{those-skip}
use Rattle.iso_plan.specs.RowView.{tree_of}
use Rattle.iso_summary.specs.Summaries.{IsNode}
use Rattle.iso_telling.proofs.NodeLemmas.{root-untold, those-nodes, told-more, told-same}
use Rattle.iso_telling.specs.ToldNodes.{is_told}
use Rattle.iso_telling.proofs.nodes.told_nodes.Goals as goal
use Rattle.iso_telling.proofs.nodes.told_nodes.Goals.{then-is_told+in_ok-push, else-is_told}

pub nodes-init : goal.nodes-init
nodes-init c =
    let tree = tree_of c.args.plan.now in
    let outcome = outcome_in c.args.results.now in
    let root = root-untold tree outcome c.args.skipped c.nodes_are_a_tree.ensures.root_is in
    c.new-told.ensures.items ∙ sym (those-skip (is_told tree outcome c.args.skipped) 0 root)

pub nodes-preserved : goal.nodes-preserved
nodes-preserved c =
    let passes = is_told (tree_of c.args.plan.now) (outcome_in c.args.results.now) c.args.skipped in
    let told = c.nodes.told.items in
    elim c.if-is_told.branch [
      | then-is_told+in_ok-push w ↦
          rw w.told-is (told-more passes told _ c.nodes.node (sym c.is_told.ensures ∙ w.if-is_told.true) c.nodes.invariant w.in_ok-push.ensures.items)
      | else-is_told w ↦
          rw w.told-is (told-same passes told c.nodes.node (sym c.is_told.ensures ∙ w.if-is_told.false) c.nodes.invariant)
    ]

pub returns-clause-nodes : goal.returns-clause-nodes
returns-clause-nodes c =
    let tree = tree_of c.args.plan.now in
    let outcome = outcome_in c.args.results.now in
    let plan = c.args.plan.now in
    let root = root-untold tree outcome c.args.skipped c.nodes_are_a_tree.ensures.root_is in
    subst (All (IsNode plan)) (sym c.nodes.invariant)
    (those-nodes (is_told tree outcome c.args.skipped) plan c.nodes.node root (omega (arith, c.len-node-end.ensures)))

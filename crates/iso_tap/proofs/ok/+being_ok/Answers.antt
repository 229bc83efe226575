use Rattle.std.proofs.Common.{◌<◌, length, get_or, true, false, sym, ◌∙◌, arith}
use Rattle.iso_lifecycle.specs.ResultViews.{outcome_in, outcome_of_view}
use Rattle.iso_plan.specs.Paths.{children}
use Rattle.iso_plan.specs.RowView.{tree_of}
use Rattle.iso_tap.proofs.ReportLemmas.{child-at, ok-by}
use Rattle.iso_tap.proofs.Within.{IsChild}
use Rattle.iso_tap.proofs.ok.+being_ok.Goals as goal

pub children_are_ok-is_ok-requires : goal.children_are_ok-is_ok-requires
children_are_ok-is_ok-requires t c =
    let tree = tree_of c.args.plan.now in
    let child = get_or c.children-child-items.result.now c.children.child-index 0 in
    let all = c.children-child-items.ensures in
    let here : c.children.child-index < length (children tree c.args.node) = rw (sym all) c.children-test.true in
    let is : IsChild tree c.args.node child = rw all (child-at tree c.args.node c.children.child-index 0 c.nodes_are_a_tree.ensures here) in
    let within : child < length c.args.plan.now.rows = is.2 in
    let after = is.1 in
    let measure = c.decreases in
    (omega arith, (c.requires.plan, (c.requires.complete, (is.0, within))))

pub is_ok-returns-then-is_ok_verdict : goal.is_ok-returns-then-is_ok_verdict
is_ok-returns-then-is_ok_verdict t c =
    let plan = c.args.plan.now in
    let n = c.args.node in
    let within : n < length (tree_of plan) = c.requires.within in
    c.children_are_ok.ensures
    ∙ sym (ok-by (tree_of plan) (outcome_in c.args.results.now) c.nodes_are_a_tree.ensures n (outcome_of_view c.outcome.result) true c.outcome.ensures
    (sym c.if-is_ok_verdict.true ∙ c.is_ok_verdict.ensures) c.requires.above within)

pub is_ok-returns-else-is_ok_verdict : goal.is_ok-returns-else-is_ok_verdict
is_ok-returns-else-is_ok_verdict t c =
    let plan = c.args.plan.now in
    let n = c.args.node in
    let within : n < length (tree_of plan) = c.requires.within in
    c.if-is_ok_verdict.false
    ∙ sym (ok-by (tree_of plan) (outcome_in c.args.results.now) c.nodes_are_a_tree.ensures n (outcome_of_view c.outcome.result) false c.outcome.ensures
    (sym c.if-is_ok_verdict.false ∙ c.is_ok_verdict.ensures) c.requires.above within)

use Rattle.std.proofs.Common.{◌<◌, ◌+◌, length, get_or, ap, sym, ◌∙◌, arith}
use Rattle.std.proofs.lemmas.List.{take_all}
use Rattle.std.proofs.lemmas.List.Sums.{sum_by_more, sum_by-take-le}
use Rattle.std.specs.List.{sum_by}
use Rattle.iso_lifecycle.specs.ResultViews.{outcome_in}
use Rattle.iso_plan.specs.Paths.{children}
use Rattle.iso_plan.specs.RowView.{tree_of}
use Rattle.iso_tap.proofs.ReportLemmas.{child-at}
use Rattle.iso_tap.proofs.Within.{IsChild}
use Rattle.iso_failures.specs.BlockedInside.{blocked_at}
use Rattle.iso_failures.proofs.BlockedLemmas.{blocked-at, blocked-at-few, blocked-failed, blocked-within, blocked-within-few}
use Rattle.iso_failures.proofs.Sums.{one}
use Rattle.iso_failures.proofs.blocked.+blocking.Goals as goal

pub blocked_at-returns-then-is_failure : goal.blocked_at-returns-then-is_failure
blocked_at-returns-then-is_failure t c =
    sym (blocked-failed (tree_of c.args.plan.now) (outcome_in c.args.results.now) c.nodes_are_a_tree.ensures c.args.node (sym c.is_failure.ensures ∙ c.if-is_failure.true))

pub blocked_at-overflow_add-result : goal.blocked_at-overflow_add-result
blocked_at-overflow_add-result t c =
    let tree = tree_of c.args.plan.now in
    let outcome = outcome_in c.args.results.now in
    let n = c.args.node in
    let all = blocked-at tree outcome c.nodes_are_a_tree.ensures n c.requires.above c.requires.within (sym c.is_failure.ensures ∙ c.if-is_failure.false) in
    let here = ap one (sym c.is_blocked_test.ensures ∙ c.if-is_blocked_test.true) in
    let few = blocked-at-few tree outcome n in
    let inside = c.blocked_within-inside.ensures in
    let small : c.blocked_within-inside.result + 1 < 4294967296 = omega (arith, c.nodes_are_countable.ensures) in
    search (arith, small)

pub blocked_at-returns-then-is_blocked_test : goal.blocked_at-returns-then-is_blocked_test
blocked_at-returns-then-is_blocked_test t c =
    let tree = tree_of c.args.plan.now in
    let outcome = outcome_in c.args.results.now in
    let n = c.args.node in
    let all = blocked-at tree outcome c.nodes_are_a_tree.ensures n c.requires.above c.requires.within (sym c.is_failure.ensures ∙ c.if-is_failure.false) in
    let here = ap one (sym c.is_blocked_test.ensures ∙ c.if-is_blocked_test.true) in
    let inside = c.blocked_within-inside.ensures in
    omega arith

pub blocked_at-returns-else-is_blocked_test : goal.blocked_at-returns-else-is_blocked_test
blocked_at-returns-else-is_blocked_test t c =
    let tree = tree_of c.args.plan.now in
    let outcome = outcome_in c.args.results.now in
    let n = c.args.node in
    let all = blocked-at tree outcome c.nodes_are_a_tree.ensures n c.requires.above c.requires.within (sym c.is_failure.ensures ∙ c.if-is_failure.false) in
    let here = ap one (sym c.is_blocked_test.ensures ∙ c.if-is_blocked_test.false) in
    let inside = c.blocked_within-inside.ensures in
    omega arith

pub blocked_within-blocked_at-count-requires : goal.blocked_within-blocked_at-count-requires
blocked_within-blocked_at-count-requires t c =
    let tree = tree_of c.args.plan.now in
    let child = get_or c.children-child-items.result.now c.children.child-index 0 in
    let all = c.children-child-items.ensures in
    let here : c.children.child-index < length (children tree c.args.node) = rw (sym all) c.children-test.true in
    let is : IsChild tree c.args.node child = rw all (child-at tree c.args.node c.children.child-index 0 c.nodes_are_a_tree.ensures here) in
    let within : child < length c.args.plan.now.rows = is.2 in
    let after = is.1 in
    let measure = c.decreases in
    (omega arith, (c.requires.plan, (c.requires.complete, (is.0, within))))

pub blocked_within-overflow_add-count : goal.blocked_within-overflow_add-count
blocked_within-overflow_add-count t c =
    let tree = tree_of c.args.plan.now in
    let outcome = outcome_in c.args.results.now in
    let items = c.children-child-items.result.now in
    let i = c.children.child-index in
    let so_far = c.children.invariant in
    let next = sum_by_more (blocked_at tree outcome) items i 0 c.children-test.true in
    let part = sum_by-take-le (blocked_at tree outcome) items (i + 1) in
    let all = ap (sum_by (blocked_at tree outcome)) c.children-child-items.ensures in
    let whole = blocked-within tree outcome c.nodes_are_a_tree.ensures c.args.node c.requires.above in
    let few = blocked-within-few tree outcome c.args.node in
    let here = c.blocked_at-count.ensures in
    let small : c.children.count + c.blocked_at-count.result < 4294967296 = omega (arith, c.nodes_are_countable.ensures) in
    search (arith, small)

pub blocked_within-returns : goal.blocked_within-returns
blocked_within-returns t c =
    let tree = tree_of c.args.plan.now in
    let outcome = outcome_in c.args.results.now in
    let items = c.children-child-items.result.now in
    c.children.invariant
    ∙ ap (sum_by (blocked_at tree outcome)) (take_all c.children.child-index items (omega arith) ∙ c.children-child-items.ensures)
    ∙ sym (blocked-within tree outcome c.nodes_are_a_tree.ensures c.args.node c.requires.above)

use Rattle.std.proofs.Common.{◌≡◌, ◌+◌, ◌<◌, Bool, ℕ, List, drop, filter, get_or, length, sym, ap, ◌∙◌, arith}
use Rattle.std.specs.List.{sum_by}
use Rattle.iso_conflicts.proofs.RangeLemmas.{drop-step, term-fits}
use Rattle.iso_conflicts.proofs.TestLemmas.{children-fit}
use Rattle.iso_conflicts.specs.Chains.{class_chain, is_same_thread, tests_in}
use Rattle.iso_plan.specs.Modes.{mode}
use Rattle.iso_plan.specs.Paths.{children}
use Rattle.iso_plan.specs.RowView.{tree_of}
use Rattle.iso_conflicts.proofs.chains.class_chain.Goals as goal

pub child_tests-requires-clause-node : goal.child_tests-requires-clause-node
child_tests-requires-clause-node c =
    let tree = tree_of c.args.plan.now in
    let e = c.children-child-items.ensures in
    let i = c.children.child-index in
    let here : i < length (children tree c.args.class) = rw e at c.children-test.true in
    let known = c.children_have_their_parent.ensures.children c.args.class i here in
    rw e known.within

pub children-preserved : goal.children-preserved
children-preserved c =
    let plan = c.args.plan.now in
    let tree = tree_of plan in
    drop-step (λ m. is_same_thread (mode tree plan.settings m)) (tests_in tree) c.children-child-items.result.now c.children.child-index c.children-test.true
    c.children.sum c.from-sum.result (class_chain tree plan.settings c.args.class) (c.from-sum.ensures ∙ c.child_tests.ensures) c.children.invariant

pub overflow_add-sum : goal.overflow_add-sum
overflow_add-sum c =
    let plan = c.args.plan.now in
    let tree = tree_of plan in
    let p : ℕ → Bool = λ m. is_same_thread (mode tree plan.settings m) in
    let rest = sum_by (tests_in tree) (filter p (drop (c.children.child-index + 1) c.children-child-items.result.now)) in
    let step = drop-step p (tests_in tree) c.children-child-items.result.now c.children.child-index c.children-test.true
    c.children.sum c.from-sum.result (class_chain tree plan.settings c.args.class) (c.from-sum.ensures ∙ c.child_tests.ensures) c.children.invariant in
    let fits = term-fits (c.children.sum + c.from-sum.result) rest _ (length plan.rows) step (children-fit tree p c.args.class c.hold_few_nodes.ensures) in
    omega (arith, fits)

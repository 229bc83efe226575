use Rattle.std.proofs.Common.{◌≡◌, ◌+◌, ◌<◌, ℕ, Bool, true, false, length, sym, ap, ◌∙◌, add-one, arith}
use Rattle.iso_affected.specs.Counting.{is_test_of}
use Rattle.iso_plan.proofs.NumberLemmas.{number-next, number-small, those-skip}
use Rattle.iso_plan.specs.RowView.{tree_of}
use Rattle.iso_plan.specs.KeptNodes.{those_below}
use Rattle.iso_affected.proofs.counts.tests_of.Goals as goal
use Rattle.iso_affected.proofs.counts.tests_of.Goals.{then-is_test_of, else-is_test_of}

one_more : (passes : ℕ → Bool) (tests n : ℕ) → passes n ≡ true → tests ≡ length (those_below passes n) → tests + 1 ≡ length (those_below passes (n + 1))
one_more passes tests n e before = ap (λ (m : ℕ). m + 1) before ∙ sym (ap (λ (m : ℕ). length (those_below passes m)) (add-one n) ∙ number-next passes n e)

no_more : (passes : ℕ → Bool) (tests n : ℕ) → passes n ≡ false → tests ≡ length (those_below passes n) → tests ≡ length (those_below passes (n + 1))
no_more passes tests n e before = before ∙ sym (ap (λ (m : ℕ). length (those_below passes m)) (add-one n) ∙ ap length (those-skip passes n e))

pub overflow_add-tests : goal.overflow_add-tests
overflow_add-tests c =
    let passes = is_test_of (tree_of c.args.plan.now) c.args.fates.now c.args.kind in
    let small = number-small passes c.nodes.node in
    let before : c.nodes.tests ≡ length (those_below passes c.nodes.node) = c.nodes.invariant in
    omega arith

pub nodes-preserved : goal.nodes-preserved
nodes-preserved c =
    let passes = is_test_of (tree_of c.args.plan.now) c.args.fates.now c.args.kind in
    let n = c.nodes.node in
    elim c.if-is_test_of.branch [
      | then-is_test_of w ↦ w.tests-is ∙ one_more passes c.nodes.tests n (sym c.is_test_of.ensures ∙ w.if-is_test_of.true) c.nodes.invariant
      | else-is_test_of w ↦ w.tests-is ∙ no_more passes c.nodes.tests n (sym c.is_test_of.ensures ∙ w.if-is_test_of.false) c.nodes.invariant
    ]

pub returns-clause-few : goal.returns-clause-few
returns-clause-few c =
    let small = number-small (is_test_of (tree_of c.args.plan.now) c.args.fates.now c.args.kind) c.nodes.node in
    let before : c.nodes.tests ≡ length (those_below (is_test_of (tree_of c.args.plan.now) c.args.fates.now c.args.kind) c.nodes.node) = c.nodes.invariant in
    let few : c.nodes.node < 4294967296 = omega (arith, c.len-node-end.ensures) in
    omega arith

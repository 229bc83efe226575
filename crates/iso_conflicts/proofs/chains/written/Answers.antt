use Rattle.std.proofs.Common.{◌+◌, ◌-◌, ◌<◌, filter, length, ◌∙◌, arith}
use Rattle.std.specs.List.{range_with_len, sum_by}
use Rattle.iso_conflicts.proofs.RangeLemmas.{part-fits, sum-step, term-fits}
use Rattle.iso_conflicts.proofs.TestLemmas.{takers-fit}
use Rattle.iso_conflicts.specs.Chains.{tests_in}
use Rattle.iso_conflicts.specs.Takers.{takers, takes}
use Rattle.iso_model.specs.declared.access.Access.TheVariants.{Write}
use Rattle.iso_plan.specs.RowView.{tree_of}
use Rattle.iso_conflicts.proofs.chains.written.Goals as goal

pub nodes-preserved : goal.nodes-preserved
nodes-preserved c =
    let plan = c.args.plan.now in
    let tree = tree_of plan in
    let here : c.nodes.node < length plan.rows = omega arith in
    sum-step (takes tree Write c.args.key) (tests_in tree) (length plan.rows) c.nodes.node here c.nodes.sum c.from-sum.result
    (sum_by (tests_in tree) (takers tree Write c.args.key)) (c.from-sum.ensures ∙ c.taker_tests.ensures) c.nodes.invariant

pub overflow_add-sum : goal.overflow_add-sum
overflow_add-sum c =
    let plan = c.args.plan.now in
    let tree = tree_of plan in
    let here : c.nodes.node < length plan.rows = omega arith in
    let few : length plan.rows < 4294967296 = omega arith in
    let rest = sum_by (tests_in tree) (filter (takes tree Write c.args.key) (range_with_len (c.nodes.node + 1) (length plan.rows - (c.nodes.node + 1)))) in
    let step = sum-step (takes tree Write c.args.key) (tests_in tree) (length plan.rows) c.nodes.node here c.nodes.sum c.from-sum.result
    (sum_by (tests_in tree) (takers tree Write c.args.key)) (c.from-sum.ensures ∙ c.taker_tests.ensures) c.nodes.invariant in
    let fits = term-fits (c.nodes.sum + c.from-sum.result) rest _ (length plan.rows) step (takers-fit tree Write c.args.key few) in
    omega (arith, fits)

pub returns-clause-fits : goal.returns-clause-fits
returns-clause-fits c =
    let plan = c.args.plan.now in
    let tree = tree_of plan in
    let few : length plan.rows < 4294967296 = omega arith in
    let rest = sum_by (tests_in tree) (filter (takes tree Write c.args.key) (range_with_len c.nodes.node (length plan.rows - c.nodes.node))) in
    part-fits c.nodes.sum rest _ (length plan.rows) c.nodes.invariant (takers-fit tree Write c.args.key few)

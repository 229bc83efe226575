use Rattle.std.proofs.Common.{length, cond, sym, ap, ◌∙◌}
use Rattle.iso_conflicts.specs.Chains.{is_same_thread, tests_in}
use Rattle.iso_plan.proofs.ColumnLemmas.{column-read, within-column}
use Rattle.iso_plan.specs.RowView.{tree_of}
use Rattle.iso_conflicts.proofs.chains.child_tests.Goals as goal

pub bounds-tests-node : goal.bounds-tests-node
bounds-tests-node c =
    let plan = c.args.plan.now in
    within-column (tests_in (tree_of plan)) c.args.tests.now (length plan.rows) c.args.node c.requires.tests c.requires.node

pub returns-in-SameThread : goal.returns-in-SameThread
returns-in-SameThread c =
    let plan = c.args.plan.now in
    let own = tests_in (tree_of plan) c.args.node in
    column-read (tests_in (tree_of plan)) c.args.tests.now (length plan.rows) c.args.node 0 c.requires.tests c.requires.node
    ∙ sym (ap (λ m. cond (is_same_thread m) own 0) (sym c.mode.ensures ∙ c.in-SameThread.is))

use Rattle.std.proofs.Common.{sym, ◌∙◌}
use Rattle.iso_core.proofs.CoreKinds.{class-fits, test-fits}
use Rattle.iso_plan.specs.Paths.{row_at}
use Rattle.iso_plan.specs.RowView.{tree_of}
use Rattle.iso_core.proofs.machine.first_kind.Goals as goal

pub returns-then-is_test-clause-fits : goal.returns-then-is_test-clause-fits
returns-then-is_test-clause-fits c = test-fits (row_at (tree_of c.args.plan.now) c.args.node).kind (sym c.is_test.ensures ∙ c.if-is_test.true)

pub returns-else-is_test-clause-fits : goal.returns-else-is_test-clause-fits
returns-else-is_test-clause-fits c = class-fits c.args.plan.now c.nodes_are_a_tree.ensures c.args.node c.requires.inner c.requires.within (sym c.is_test.ensures ∙ c.if-is_test.false)

use Rattle.std.proofs.Common.{sym, ◌∙◌}
use Rattle.iso_lifecycle.proofs.FirstKinds.{class-fits, test-fits}
use Rattle.iso_plan.specs.Paths.{row_at}
use Rattle.iso_plan.specs.RowView.{tree_of}
use Rattle.iso_lifecycle.proofs.kind.first_kind.Goals as goal

pub returns-then-is_test-clause-fits : goal.returns-then-is_test-clause-fits
returns-then-is_test-clause-fits c pos = test-fits (row_at (tree_of c.args.plan.now) c.args.node).kind (sym c.is_test.ensures ∙ c.if-is_test.true)

pub returns-else-is_test-clause-fits : goal.returns-else-is_test-clause-fits
returns-else-is_test-clause-fits c pos =
    class-fits (row_at (tree_of c.args.plan.now) c.args.node).kind (c.nodes_are_a_tree.ensures.full c.args.node pos c.requires) (sym c.is_test.ensures ∙ c.if-is_test.false)

use Rattle.std.proofs.Common.{ap₂, ◌∙◌, subst, sym}
use Rattle.iso_plan.specs.RowView.{tree_of}
use Rattle.iso_plan.specs.Conflicts.{conflicts}
use Rattle.iso_plan.proofs.ConflictLemmas.{conflicts-is}
use Rattle.iso_plan.proofs.MergeLemmas.{locks-rise}
use Rattle.iso_plan.specs.Rising.{Rise}
use Rattle.iso_plan.proofs.conflict.nodes_conflict.Goals as goal

pub returns : goal.returns
returns c = c.conflicts.ensures ∙ ap₂ conflicts c.locks.ensures.locks c.locks-2.ensures.locks ∙ conflicts-is (tree_of c.args.plan.now) c.args.node c.args.other

pub conflicts-requires-clause-some : goal.conflicts-requires-clause-some
conflicts-requires-clause-some c = subst Rise (sym c.locks.ensures.locks) (locks-rise (tree_of c.args.plan.now) c.args.node)

pub conflicts-requires-clause-others : goal.conflicts-requires-clause-others
conflicts-requires-clause-others c = subst Rise (sym c.locks-2.ensures.locks) (locks-rise (tree_of c.args.plan.now) c.args.other)

use Rattle.std.proofs.Common.{◌≡◌}
use Rattle.iso_lifecycle.specs.ResultViews.{outcome_in}
use Rattle.iso_plan.specs.RowView.{tree_of}
use Rattle.iso_plan.specs.KeptNodes.{those_below}
use Rattle.iso_telling.specs.ToldNodes.{is_told}
use Rattle.iso_telling.proofs.nodes.told_nodes.Given as goal

abbrev pub invariant-nodes : goal.invariant-nodes
invariant-nodes l = l.told.items ≡ those_below (is_told (tree_of l.plan) (outcome_in l.results) l.skipped) l.node

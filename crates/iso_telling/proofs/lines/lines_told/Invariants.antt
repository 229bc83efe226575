use Rattle.std.proofs.Common.{◌≡◌, map, take}
use Rattle.iso_lifecycle.specs.ResultViews.{outcome_in}
use Rattle.iso_plan.specs.RowView.{tree_of}
use Rattle.iso_telling.specs.ToldPlaces.{told, told_of}
use Rattle.iso_telling.proofs.lines.lines_told.Given as goal

abbrev pub invariant-nodes : goal.invariant-nodes
invariant-nodes l = map told_of l.lines.items ≡ map (told l.explain (tree_of l.plan) l.sites (outcome_in l.results)) (take l.node-index l.nodes)

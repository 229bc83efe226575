use Rattle.std.proofs.Common.{◌≡◌, map}
use Rattle.iso_plan.specs.KeptNodes.{those_below}
use Rattle.iso_explain_plan.specs.Sizes.{is_own, size_of, sized}
use Rattle.iso_explain_plan.proofs.size.all_sizes.Given as goal

abbrev pub invariant-nodes : goal.invariant-nodes
invariant-nodes l = map size_of l.sizes.items ≡ map (sized l.paths l.classes) (those_below (is_own l.classes) l.n)

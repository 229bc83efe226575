use Rattle.std.proofs.Common.{◌≡◌, [], get_or, map, false}
use Rattle.iso_plan.specs.KeptNodes.{those_below}
use Rattle.iso_selection.proofs.pick.kept_paths.Given as goal

abbrev pub invariant-nodes : goal.invariant-nodes
invariant-nodes l = l.left.items ≡ map (λ n. get_or l.paths n []) (those_below (λ n. get_or l.kept n false) l.n)

use Rattle.std.proofs.Common.{◌≡◌, [], map}
use Rattle.iso_plan.specs.Paths.{column}
use Rattle.iso_plan.proofs.child_lists.no_children.Given as goal

abbrev pub invariant-nodes : goal.invariant-nodes
invariant-nodes l = map (λ c. c.items) l.children.items ≡ column (λ n. []) l._n

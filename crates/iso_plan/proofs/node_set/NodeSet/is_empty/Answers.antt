use Rattle.std.proofs.Common.{Bool, List, ap, not, ◌∙◌}
use Rattle.iso_desk.specs.Marking.{has}
use Rattle.iso_plan.specs.HeldNodes.{any_held}
use Rattle.iso_plan.proofs.NodeSetLemmas.{any-none}
use Rattle.iso_plan.proofs.node_set.NodeSet.is_empty.Goals as goal

pub returns : goal.returns
returns c =
    any-none (has c.self.inside.marks) c.self.inside.nodes c.self.inside.held c.self.invariant.counts ∙ ap (λ (hs : List Bool). not (any_held hs)) c.self.view_is

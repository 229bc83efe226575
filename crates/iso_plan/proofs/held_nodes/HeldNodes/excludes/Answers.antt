use Rattle.std.proofs.Common.{◌≡◌, ◌<◌, List, ap, arith, length, is_some, ◌∙◌}
use Rattle.iso_plan.specs.Conflicts.{lowest_in_the_way}
use Rattle.iso_plan.specs.HeldNodes.{HeldView, any_excluded, is_held}
use Rattle.iso_plan.specs.RowView.{tree_of}
use Rattle.iso_plan.specs.declared.held_nodes.KeyUse.{KeyUse}
use Rattle.iso_plan.proofs.LeadLemmas.{leads-excluded}
use Rattle.iso_plan.proofs.held_nodes.HeldNodes.excludes.Goals as goal

pub returns : goal.returns
returns c =
    let tree = tree_of c.self.inside.plan.now in
    let same : length tree ≡ length c.args.self.now.plan.rows = ap (λ (v : HeldView). length v.plan.rows) c.self.view_is in
    let within : c.args.node < length tree = omega (arith, c.requires) in
    let uses : List KeyUse = c.self.inside.uses.items in
    c.any_excluded.ensures
    ∙ ap (λ (us : List KeyUse). any_excluded us c.lead_locks.result.now) c.deref.ensures.value
    ∙ ap (any_excluded uses) c.lead_locks.ensures.locks
    ∙ leads-excluded tree c.self.inside.held uses c.args.node within c.self.invariant
    ∙ ap (λ (v : HeldView). is_some (lowest_in_the_way (tree_of v.plan) (is_held v.held) c.args.node)) c.self.view_is

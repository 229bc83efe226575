use Rattle.std.proofs.Common.{◌≡◌, ◌<◌, List, ap, arith, length, sym, ◌∙◌}
use Rattle.std.proofs.lemmas.List.{get_or_default}
use Rattle.iso_plan.proofs.LeadLemmas.{lead-le, takers-counted}
use Rattle.iso_plan.specs.HeldNodes.{HeldView, counted, takers, unused, use_of}
use Rattle.iso_plan.specs.KeyTable.{keys}
use Rattle.iso_plan.specs.RowView.{tree_of}
use Rattle.iso_plan.specs.declared.held_nodes.KeyUse.{KeyUse}
use Rattle.iso_plan.proofs.held_nodes.HeldNodes.takers.Goals as goal

pub index-requires : goal.index-requires
index-requires c =
    let v = c.self.inside.uses in
    let tree = tree_of c.self.inside.plan.now in
    let same : length (keys tree) ≡ length (keys (tree_of c.args.self.now.plan)) = ap (λ (v : HeldView). length (keys (tree_of v.plan))) c.self.view_is in
    let table = c.self.invariant.table in
    let low = lead-le tree c.args.key in
    let lead = c.lead.ensures in
    omega (arith, c.requires, v.ok.0)

pub returns : goal.returns
returns c =
    let uses : List KeyUse = c.self.inside.uses.items in
    let tree = tree_of c.self.inside.plan.now in
    let same : length (keys tree) ≡ length (keys (tree_of c.args.self.now.plan)) = ap (λ (v : HeldView). length (keys (tree_of v.plan))) c.self.view_is in
    let table = c.self.invariant.table in
    let known : c.args.key < length (keys tree) = omega (arith, c.requires) in
    let low = lead-le tree c.args.key in
    let lead = c.lead.ensures in
    let within : c.lead.result < length uses = omega arith in
    c.takers.ensures
    ∙ ap (counted c.args.access) (c.index.ensures ∙ sym (get_or_default uses c.lead.result unused c.index.result.now within) ∙ ap (use_of uses) lead)
    ∙ takers-counted tree c.self.inside.held uses c.args.access c.args.key known c.self.invariant
    ∙ ap (λ (v : HeldView). takers (tree_of v.plan) v.held c.args.access c.args.key) c.self.view_is

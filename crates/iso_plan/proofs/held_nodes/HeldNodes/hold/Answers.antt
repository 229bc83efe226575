use Rattle.std.proofs.Common.{◌≡◌, ◌<◌, ◌^◌, Bool, List, ap, arith, false, length, refl, set, subst, sym, true, ◌∙◌}
use Rattle.iso_model.specs.declared.limits.TheConstants.{NODES}
use Rattle.iso_plan.specs.HeldNodes.{AreLeadsCounted, CanAdd, HeldView, added, is_held}
use Rattle.iso_plan.specs.KeyGroups.{lead_locks}
use Rattle.iso_plan.specs.RowView.{tree_of}
use Rattle.iso_plan.specs.declared.held_nodes.KeyUse.{KeyUse}
use Rattle.iso_plan.specs.declared.lock.Lock.{Lock}
use Rattle.iso_plan.proofs.LeadLemmas.{counted-more, room}
use Rattle.iso_plan.proofs.held_nodes.HeldNodes.hold.Goals as goal

pub add-requires : goal.add-requires
add-requires c =
    let tree = tree_of c.self.inside.plan.now in
    let uses : List KeyUse = c.self.inside.uses.items in
    let limit : NODES ≡ 4096 = refl in
    let few : length tree < 2 ^ 63 = omega (arith, limit, c.nodes_are_few.ensures) in
    subst (λ (ls : List Lock). CanAdd ls uses) (sym c.lead_locks-locks.ensures.locks)
    (room tree c.self.inside.held uses c.args.node few c.self.invariant)

pub invariant_of-self : goal.invariant_of-self
invariant_of-self c =
    let tree = tree_of c.self.inside.plan.now in
    let held = c.self.inside.held in
    let uses : List KeyUse = c.self.inside.uses.items in
    let same : length tree ≡ length c.args.self.now.plan.rows = ap (λ (v : HeldView). length v.plan.rows) c.self.view_is in
    let within : c.args.node < length tree = omega (arith, c.requires) in
    let is : c.add.new.uses.items ≡ added (lead_locks tree c.args.node) uses = c.add.ensures ∙ ap (λ (ls : List Lock). added ls uses) c.lead_locks-locks.ensures.locks in
    let free : is_held held c.args.node ≡ false = sym c.has.ensures ∙ c.if-not-has.true in
    subst (λ (hs : List Bool). AreLeadsCounted tree hs c.add.new.uses.items) (sym c.put_in.ensures) (subst (AreLeadsCounted tree (set held c.args.node true)) (sym is)
    (counted-more tree held uses c.args.node within free c.self.invariant))

pub has-requires : goal.has-requires
has-requires c =
    let same : length (tree_of c.self.inside.plan.now) ≡ length c.args.self.now.plan.rows = ap (λ (v : HeldView). length v.plan.rows) c.self.view_is in
    let fits = c.self.invariant.nodes in
    omega (arith, c.requires)

pub put_in-requires-clause-node : goal.put_in-requires-clause-node
put_in-requires-clause-node c =
    let same : length (tree_of c.self.inside.plan.now) ≡ length c.args.self.now.plan.rows = ap (λ (v : HeldView). length v.plan.rows) c.self.view_is in
    let fits = c.self.invariant.nodes in
    omega (arith, c.requires)

pub put_in-requires-clause-free : goal.put_in-requires-clause-free
put_in-requires-clause-free c = sym c.has.ensures ∙ c.if-not-has.true

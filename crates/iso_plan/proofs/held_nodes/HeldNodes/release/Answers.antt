use Rattle.std.proofs.Common.{◌≡◌, ◌<◌, Bool, List, ap, arith, false, length, set, subst, sym, true, ◌∙◌}
use Rattle.iso_plan.specs.HeldNodes.{AreLeadsCounted, CanRemove, HeldView, is_held, removed}
use Rattle.iso_plan.specs.KeyGroups.{lead_locks}
use Rattle.iso_plan.specs.RowView.{tree_of}
use Rattle.iso_plan.specs.declared.held_nodes.KeyUse.{KeyUse}
use Rattle.iso_plan.specs.declared.lock.Lock.{Lock}
use Rattle.iso_plan.proofs.LeadLemmas.{counted-less, there}
use Rattle.iso_plan.proofs.held_nodes.HeldNodes.release.Goals as goal

pub remove-requires : goal.remove-requires
remove-requires c =
    let tree = tree_of c.self.inside.plan.now in
    let held = c.self.inside.held in
    let uses : List KeyUse = c.self.inside.uses.items in
    let same : length tree ≡ length c.args.self.now.plan.rows = ap (λ (v : HeldView). length v.plan.rows) c.self.view_is in
    let fits = c.self.invariant.nodes in
    let within : c.args.node < length tree = omega (arith, c.requires) in
    let held_before : is_held held c.args.node ≡ true = sym c.has.ensures ∙ c.if-has.true in
    subst (λ (ls : List Lock). CanRemove ls uses) (sym c.lead_locks-locks.ensures.locks)
    (there tree held uses c.args.node within held_before c.self.invariant)

pub invariant_of-self : goal.invariant_of-self
invariant_of-self c =
    let tree = tree_of c.self.inside.plan.now in
    let held = c.self.inside.held in
    let uses : List KeyUse = c.self.inside.uses.items in
    let same : length tree ≡ length c.args.self.now.plan.rows = ap (λ (v : HeldView). length v.plan.rows) c.self.view_is in
    let fits = c.self.invariant.nodes in
    let within : c.args.node < length tree = omega (arith, c.requires) in
    let held_before : is_held held c.args.node ≡ true = sym c.has.ensures ∙ c.if-has.true in
    let is : c.remove.new.uses.items ≡ removed (lead_locks tree c.args.node) uses = c.remove.ensures ∙ ap (λ (ls : List Lock). removed ls uses) c.lead_locks-locks.ensures.locks in
    subst (λ (hs : List Bool). AreLeadsCounted tree hs c.remove.new.uses.items) (sym c.take_out.ensures) (subst (AreLeadsCounted tree (set held c.args.node false)) (sym is)
    (counted-less tree held uses c.args.node within held_before c.self.invariant))

pub has-requires : goal.has-requires
has-requires c =
    let same : length (tree_of c.self.inside.plan.now) ≡ length c.args.self.now.plan.rows = ap (λ (v : HeldView). length v.plan.rows) c.self.view_is in
    let fits = c.self.invariant.nodes in
    omega (arith, c.requires)

pub take_out-requires-clause-node : goal.take_out-requires-clause-node
take_out-requires-clause-node c =
    let same : length (tree_of c.self.inside.plan.now) ≡ length c.args.self.now.plan.rows = ap (λ (v : HeldView). length v.plan.rows) c.self.view_is in
    let fits = c.self.invariant.nodes in
    omega (arith, c.requires)

pub take_out-requires-clause-there : goal.take_out-requires-clause-there
take_out-requires-clause-there c = sym c.has.ensures ∙ c.if-has.true

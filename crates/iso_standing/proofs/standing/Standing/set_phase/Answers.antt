use Rattle.std.proofs.Common.{ℕ, ◌<◌, length, set, ap, sym, ◌∙◌, subst}
use Rattle.iso_standing.proofs.Passing.{keeps-phase, standing-phase}
use Rattle.iso_standing.proofs.Holding.{holding-phase}
use Rattle.iso_standing.specs.Holding.{KeepsHeld, with_held}
use Rattle.iso_standing.specs.Passed.{ArePassed}
use Rattle.iso_standing.specs.Standings.{Standing, nodes_in}
use Rattle.iso_plan.specs.Paths.{parent}
use Rattle.iso_plan.specs.Planned.{Planned}
use Rattle.iso_plan.specs.RowView.{tree_of}
use Rattle.iso_standing.proofs.standing.Standing.set_phase.Goals as goal

pub invariant_of-self : goal.invariant_of-self
invariant_of-self c =
    let s = c.self.inside in
    let n = c.args.node in
    let to = c.args.phase in
    let count = c.still_passed-passed.result in
    let v : Standing = record { plan = s.plan.now; phases = s.phases.items; owners = s.owners.items; busy = s.busy.items; stopped = s.stopped } in
    let is = c.parent-parent.ensures.parent c.requires.inner ∙ ap (λ (u : Standing). parent (tree_of u.plan) n) (sym c.self.view_is) in
    let there = subst (λ (u : Standing). c.parent-parent.result < nodes_in u) (sym c.self.view_is) c.parent-parent.ensures.known in
    let passed = subst (λ (u : Standing). ArePassed u.plan (set u.phases n to) (parent (tree_of u.plan) n) count) (sym c.self.view_is) c.still_passed-passed.ensures in
    let known : n < nodes_in v = subst (λ (u : Standing). n < nodes_in u) (sym c.self.view_is) c.requires.node in
    let long : n < length v.phases = subst (λ (k : ℕ). n < k) (sym c.self.invariant.0.phases) known in
    let held : KeepsHeld v.plan (set v.phases n to) c.set_held.new.nodes =
    subst (KeepsHeld v.plan (set v.phases n to)) (sym (c.set_held.ensures ∙ ap (with_held s.held n) c.is_held.ensures)) (holding-phase v.plan v.phases s.held n to long known c.self.invariant.2) in
    (standing-phase v n to c.requires.inner c.self.invariant.0, keeps-phase v.plan v.phases s.passed.items n to c.parent-parent.result count c.self.invariant.1 is there passed, held)

pub set_held-requires : goal.set_held-requires
set_held-requires c =
    let known = subst (λ (u : Standing). c.args.node < nodes_in u) (sym c.self.view_is) c.requires.node in
    subst (λ (p : Planned). c.args.node < length p.rows) (sym c.self.invariant.2.plan) known

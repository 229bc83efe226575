use Rattle.std.proofs.Common.{◌≡◌, ◌<◌, ℕ, length, true, sym, subst}
use Rattle.iso_plan.specs.HeldNodes.{HeldView, releasing}
use Rattle.iso_locks.proofs.LentLemmas.{lent-less, locker-counted, locker-known}
use Rattle.iso_locks.specs.Lent.{KeepsLent}
use Rattle.iso_locks.specs.Lockers.{LockersView}
use Rattle.iso_locks.specs.Trays.{is_lent}
use Rattle.iso_locks.proofs.lent.LentNodes.take_back.Goals as goal

abbrev Known : ℕ → HeldView → Type 0
Known n h = n < length h.plan.rows

abbrev Held : ℕ → HeldView → Type 0
Held n h = is_lent h.held n ≡ true

pub remove-requires-clause-node : goal.remove-requires-clause-node
remove-requires-clause-node c =
    locker-known c.self.inside.plan.now c.self.inside.lent c.self.inside.lockers c.self.invariant c.args.node c.in-Some.locker c.nodes_are_a_tree.ensures.below
    (subst (Known c.args.node) (sym c.self.view_is) c.requires.node) (sym c.in-Some.ensures)

pub remove-requires-clause-counted : goal.remove-requires-clause-counted
remove-requires-clause-counted c =
    locker-counted c.self.inside.plan.now c.self.inside.lent c.self.inside.lockers c.self.invariant c.args.node c.in-Some.locker c.nodes_are_a_tree.ensures.below
    (subst (Known c.args.node) (sym c.self.view_is) c.requires.node) (subst (Held c.args.node) (sym c.self.view_is) c.requires.lent) (sym c.in-Some.ensures)

pub invariant_of-self : goal.invariant_of-self
invariant_of-self c =
    let plan = c.self.inside.plan.now in
    let n = c.args.node in
    let less =
    lent-less plan c.self.inside.lent c.self.inside.lockers c.self.invariant n c.in-Some.locker c.nodes_are_a_tree.ensures.below
    (subst (Known n) (sym c.self.view_is) c.requires.node) (subst (Held n) (sym c.self.view_is) c.requires.lent) (sym c.in-Some.ensures) in
    subst (λ (h : HeldView). KeepsLent plan h c.remove.new.self) (sym c.release.ensures)
    (subst (λ (v : LockersView). KeepsLent plan (releasing n c.self.inside.lent) v) (sym c.remove.ensures) less)

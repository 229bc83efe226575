use Rattle.std.proofs.Common.{◌≡◌, ◌<◌, ℕ, length, false, sym, subst}
use Rattle.iso_plan.specs.HeldNodes.{HeldView, holding}
use Rattle.iso_locks.proofs.LentLemmas.{lent-more, locker-few, locker-known}
use Rattle.iso_locks.specs.Lent.{KeepsLent}
use Rattle.iso_locks.specs.Lockers.{LockersView}
use Rattle.iso_locks.specs.Trays.{is_lent}
use Rattle.iso_locks.proofs.lent.LentNodes.lend.Goals as goal

abbrev Known : ℕ → HeldView → Type 0
Known n h = n < length h.plan.rows

pub add-requires-clause-node : goal.add-requires-clause-node
add-requires-clause-node c =
    locker-known c.self.inside.plan.now c.self.inside.lent c.self.inside.lockers c.self.invariant c.args.node c.in-Some.locker c.nodes_are_a_tree.ensures.below
    (subst (Known c.args.node) (sym c.self.view_is) c.requires.node) (sym c.in-Some.ensures)

pub add-requires-clause-few : goal.add-requires-clause-few
add-requires-clause-few c =
    locker-few c.self.inside.plan.now c.self.inside.lent c.self.inside.lockers c.self.invariant c.args.node c.in-Some.locker c.nodes_are_a_tree.ensures.below
    (subst (Known c.args.node) (sym c.self.view_is) c.requires.node) (sym c.in-Some.ensures)

pub invariant_of-self : goal.invariant_of-self
invariant_of-self c =
    let plan = c.self.inside.plan.now in
    let n = c.args.node in
    let free = subst (λ (h : HeldView). is_lent h.held n ≡ false) (sym c.self.view_is) c.requires.free in
    let more =
    lent-more plan c.self.inside.lent c.self.inside.lockers c.self.invariant n c.in-Some.locker c.nodes_are_a_tree.ensures.below
    (subst (Known n) (sym c.self.view_is) c.requires.node) free (sym c.in-Some.ensures) in
    subst (λ (h : HeldView). KeepsLent plan h c.add.new.self) (sym c.hold.ensures)
    (subst (λ (v : LockersView). KeepsLent plan (holding n c.self.inside.lent) v) (sym c.add.ensures) more)

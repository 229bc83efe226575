use Rattle.std.proofs.Common.{◌≡◌, ◌<◌, Bool, length, true, false, not, ap, sym, ◌∙◌, subst, refl}
use Rattle.iso_plan.specs.Planned.{Planned}
use Rattle.iso_plan.specs.RowView.{tree_of}
use Rattle.iso_locks.specs.Lent.{AreApart, IsBeside}
use Rattle.iso_locks.specs.Trays.{TrayView}
use Rattle.iso_locks.proofs.tray.Tray.can_hold.Goals as goal

told : (b : Bool) → not b ≡ true → b ≡ false
told true e = absurd (cc)
told false e = refl

pub clash_with-requires-clause-apart : goal.clash_with-requires-clause-apart
clash_with-requires-clause-apart c =
    subst (λ (p : Planned). AreApart (tree_of p) c.self.inside.lent.held) (sym c.self.invariant.lent_of) c.self.invariant.are_owned.apart

pub returns-clause-holds : goal.returns-clause-holds
returns-clause-holds c e =
    let n = c.args.node in
    let inside = c.clash_with.ensures.beside (told c.clash_with.result e) in
    let beside = subst (λ (p : Planned). IsBeside (tree_of p) c.self.inside.lent.held n) c.self.invariant.lent_of inside in
    record {
      apart = sym c.is_lent.ensures ∙ c.if-is_lent.false;
      beside = subst (λ (t : TrayView). IsBeside (tree_of t.plan) t.lent n) c.self.view_is beside;
    }

pub returns-clause-refuses : goal.returns-clause-refuses
returns-clause-refuses c can =
    let n = c.args.node in
    let beside = subst (λ (t : TrayView). IsBeside (tree_of t.plan) t.lent n) (sym c.self.view_is) can.beside in
    let inside = subst (λ (p : Planned). IsBeside (tree_of p) c.self.inside.lent.held n) (sym c.self.invariant.lent_of) beside in
    ap not (c.clash_with.ensures.clashes inside)

pub clash_with-requires-clause-node : goal.clash_with-requires-clause-node
clash_with-requires-clause-node c =
    let n = c.args.node in
    subst (λ (p : Planned). n < length p.rows) (sym c.self.invariant.lent_of) (subst (λ (t : TrayView). n < length t.plan.rows) (sym c.self.view_is) c.requires)

use Rattle.std.proofs.Common.{sym, subst}
use Rattle.iso_plan.specs.HeldNodes.{HeldView, none_held}
use Rattle.iso_locks.proofs.LentLemmas.{lent-none}
use Rattle.iso_locks.specs.Lent.{KeepsLent}
use Rattle.iso_locks.specs.Lockers.{LockersView}
use Rattle.iso_locks.proofs.lent.LentNodes.new.Goals as goal

pub invariant_of-result : goal.invariant_of-result
invariant_of-result c =
    let plan = c.args.plan.now in
    subst (λ (h : HeldView). KeepsLent plan h c.in_ok-new-2.field-0) (sym c.in_ok-new.ensures)
    (subst (λ (v : LockersView). KeepsLent plan (none_held plan) v) (sym c.in_ok-new-2.ensures) (lent-none plan))

use Rattle.std.proofs.Common.{◌<◌, length, sym, subst}
use Rattle.iso_plan.specs.Planned.{Planned}
use Rattle.iso_locks.specs.Trays.{TrayView}
use Rattle.iso_locks.proofs.tray.Tray.is_lent.Goals as goal

pub has-requires : goal.has-requires
has-requires c =
    let n = c.args.node in
    subst (λ (p : Planned). n < length p.rows) (sym c.self.invariant.lent_of) (subst (λ (t : TrayView). n < length t.plan.rows) (sym c.self.view_is) c.requires)

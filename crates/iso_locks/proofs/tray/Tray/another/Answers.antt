use Rattle.std.proofs.Common.{◌≡◌, IfOk, ap, sym, ◌∙◌, subst}
use Rattle.iso_locks.specs.Trays.{TrayView, empty_tray}
use Rattle.iso_locks.proofs.tray.Tray.another.Goals as goal

pub over-requires : goal.over-requires
over-requires c = c.in_ok-share.ensures ∙ c.self.invariant.starts_are

pub returns : goal.returns
returns c = subst (λ (t : TrayView). IfOk c.over.result (λ u. u ≡ empty_tray t.plan t.world)) c.self.view_is c.over.ensures

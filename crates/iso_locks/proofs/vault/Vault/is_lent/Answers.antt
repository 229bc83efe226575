use Rattle.std.proofs.Common.{◌<◌, length, sym, subst}
use Rattle.iso_plan.specs.Planned.{Planned}
use Rattle.iso_locks.specs.Vaults.{VaultView}
use Rattle.iso_locks.proofs.vault.Vault.is_lent.Goals as goal

pub is_held-requires : goal.is_held-requires
is_held-requires c =
    let n = c.args.node in
    subst (λ (p : Planned). n < length p.rows) (sym c.self.invariant.lent_of) (subst (λ (v : VaultView). n < length v.plan.rows) (sym c.self.view_is) c.requires)

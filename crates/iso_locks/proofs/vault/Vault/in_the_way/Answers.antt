use Rattle.std.proofs.Common.{◌<◌, length, ap, sym, subst, ◌∙◌}
use Rattle.iso_plan.specs.Conflicts.{lowest_in_the_way}
use Rattle.iso_plan.specs.HeldNodes.{is_held}
use Rattle.iso_plan.specs.Planned.{Planned}
use Rattle.iso_plan.specs.RowView.{tree_of}
use Rattle.iso_locks.proofs.LentLemmas.{none-of}
use Rattle.iso_locks.specs.Vaults.{VaultView, busy}
use Rattle.iso_locks.proofs.vault.Vault.in_the_way.Goals as goal

pub returns-then-not-excludes : goal.returns-then-not-excludes
returns-then-not-excludes c =
    let held = c.self.inside.lent.held in
    let n = c.args.node in
    sym
    (ap (λ (v : VaultView). busy v n) (sym c.self.view_is) ∙ ap (λ (p : Planned). lowest_in_the_way (tree_of p) (is_held held) n) (sym c.self.invariant.lent_of)
    ∙ none-of (lowest_in_the_way (tree_of c.self.inside.lent.plan) (is_held held) n) (sym c.excludes.ensures ∙ c.if-not-excludes.true))

pub excludes-requires : goal.excludes-requires
excludes-requires c =
    let n = c.args.node in
    subst (λ (p : Planned). n < length p.rows) (sym c.self.invariant.lent_of) (subst (λ (v : VaultView). n < length v.plan.rows) (sym c.self.view_is) c.requires)

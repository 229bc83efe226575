use Rattle.std.proofs.Common.{◌<◌, length, ap, sym, ◌∙◌, subst}
use Rattle.iso_plan.specs.KeyTable.{keys}
use Rattle.iso_plan.specs.Locks.{locks, takes_write}
use Rattle.iso_plan.specs.RowView.{tree_of}
use Rattle.iso_locks.proofs.MoveLemmas.{all-written}
use Rattle.iso_locks.specs.Moves.{AreAllButFirst, BeginAtSecond}
use Rattle.iso_locks.specs.Vaults.{VaultView}
use Rattle.iso_locks.proofs.vault.Vault.moves.Goals as goal

pub returns-then-not-is_writer-clause-nothing : goal.returns-then-not-is_writer-clause-nothing
returns-then-not-is_writer-clause-nothing c = λ e. ap (λ (v : VaultView). takes_write (tree_of v.plan) c.args.node) (sym c.self.view_is) ∙ sym c.is_writer.ensures ∙ c.if-not-is_writer.true

pub returns-then-begin_at_second-clause-all : goal.returns-then-begin_at_second-clause-all
returns-then-begin_at_second-clause-all c =
    let tree = tree_of c.self.inside.plan.now in
    let n = c.args.node in
    let node : n < length tree = subst (λ (v : VaultView). n < length v.plan.rows) (sym c.self.view_is) c.requires in
    let All : VaultView → Type 0 = λ v. AreAllButFirst (length (keys (tree_of v.plan))) (locks (tree_of v.plan) n) in
    let begins : BeginAtSecond (locks tree n) = subst BeginAtSecond c.locks.ensures.locks (c.begin_at_second.ensures c.if-begin_at_second.true) in
    λ e. subst All c.self.view_is (all-written tree n node (c.self.invariant.one_group c.if-self.true) begins)

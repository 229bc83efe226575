use Rattle.std.proofs.Common.{◌≡◌, ℕ, ◌<◌, List, length, map, set, Bool, true, false, is_some, ap, sym, ◌∙◌, subst, arith}
use Rattle.std.specs.List.{list_any}
use Rattle.iso_plan.specs.HeldNodes.{HeldView}
use Rattle.iso_plan.specs.KeyTable.{keys}
use Rattle.iso_plan.specs.Locks.{is_write, locks, takes_write}
use Rattle.iso_plan.specs.Planned.{Planned}
use Rattle.iso_plan.specs.RowView.{tree_of}
use Rattle.iso_settings.specs.Worlds.{Start, starting_value_in}
use Rattle.iso_locks.specs.Moves.{AreAllButFirst, is_written, moved_here}
use Rattle.iso_locks.specs.Slots.{Slots}
use Rattle.iso_locks.specs.Trays.{TrayView, key_at}
use Rattle.iso_locks.specs.Vaults.{IsVault, StandsAtStart, VaultView, regaining}
use Rattle.iso_locks.proofs.VaultLemmas.{back-vault, home-back, some-back}
use Rattle.iso_locks.proofs.vault.Vault.take_back.Goals as goal

pub invariant_of-self : goal.invariant_of-self
invariant_of-self c =
    let t : TrayView = c.args.tray.now in
    let n = c.args.node in
    let plan : t.plan ≡ c.self.inside.plan.now = c.requires.plan ∙ sym (ap (λ (v : VaultView). v.plan) c.self.view_is) in
    let world : t.world ≡ c.self.inside.world.now = c.requires.world ∙ sym (ap (λ (v : VaultView). v.world) c.self.view_is) in
    let A : Planned → Type 0 = λ p. (i : ℕ) → i < length (keys (tree_of p)) → is_written (locks (tree_of p) n) i ≡ true → StandsAtStart t i in
    let starts : A t.plan = subst A (sym c.requires.plan) c.requires.at_start in
    let P : Planned → Type 0 = λ p. IsVault p c.self.inside.world.now c.self.inside.lent.held c.self.inside.values in
    let Q : Start → Type 0 = λ w. IsVault t.plan w c.self.inside.lent.held c.self.inside.values in
    let kept : IsVault t.plan t.world c.self.inside.lent.held c.self.inside.values = subst Q (sym world) (subst P (sym plan) c.self.invariant.lists) in
    let back = back-vault t.plan t.world c.self.inside.lent.held c.self.inside.values t.values n kept starts in
    let R : Slots → Type 0 = λ h. IsVault t.plan t.world (set c.self.inside.lent.held n false) h in
    let S : Start → Type 0 = λ w. IsVault t.plan w (set c.self.inside.lent.held n false) c.give_back.new.home in
    let T : Planned → Type 0 = λ p. IsVault p c.self.inside.world.now (set c.self.inside.lent.held n false) c.give_back.new.home in
    record {
      lent_of = ap (λ (h : HeldView). h.plan) c.release.ensures ∙ c.self.invariant.lent_of;
      one_group = c.self.invariant.one_group;
      lists =
          subst (λ (h : HeldView). IsVault c.self.inside.plan.now c.self.inside.world.now h.held c.give_back.new.home) (sym c.release.ensures)
          (subst T plan (subst S world (subst R (sym c.give_back.ensures.home) back)));
    }

pub returns-clause-vault : goal.returns-clause-vault
returns-clause-vault c =
    let t : TrayView = c.args.tray.now in
    let n = c.args.node in
    let plan : Planned = c.self.inside.plan.now in
    let same : t.plan ≡ plan = c.requires.plan ∙ sym (ap (λ (v : VaultView). v.plan) c.self.view_is) in
    let A : Planned → Type 0 = λ p. (i : ℕ) → i < length (keys (tree_of p)) → is_written (locks (tree_of p) n) i ≡ true → StandsAtStart t i in
    let starts : A plan = subst A (sym (ap (λ (v : VaultView). v.plan) c.self.view_is)) c.requires.at_start in
    let fits = c.self.invariant.lists.values_fit in
    let moved : c.give_back.new.home ≡ moved_here (locks (tree_of plan) n) t.values c.self.inside.values = c.give_back.ensures.home
    ∙ ap (λ (p : Planned). moved_here (locks (tree_of p) n) t.values c.self.inside.values) same in
    let with_home : List Bool → VaultView = λ h. record { plan = plan; world = c.self.inside.world.now; lent = set c.self.inside.lent.held n false; home = h } in
    ap (λ (h : HeldView). record { plan = plan; world = c.self.inside.world.now; lent = h.held; home = map is_some c.give_back.new.home }) c.release.ensures
    ∙ ap with_home (ap (map is_some) moved ∙ home-back (locks (tree_of plan) n) t.values c.self.inside.values
    (λ i h w. let within : i < length (keys (tree_of plan)) = omega arith in some-back t.values i (starting_value_in t.world (key_at (tree_of t.plan) i)) (starts i within w)))
    ∙ ap (regaining n) c.self.view_is

pub release-requires : goal.release-requires
release-requires c =
    let n = c.args.node in
    subst (λ (p : Planned). n < length p.rows) (sym c.self.invariant.lent_of) (subst (λ (v : VaultView). n < length v.plan.rows) (sym c.self.view_is) c.requires.node)

pub give_back-requires-clause-all : goal.give_back-requires-clause-all
give_back-requires-clause-all c =
    let n = c.args.node in
    let All : VaultView → Type 0 = λ v. AreAllButFirst (length (keys (tree_of v.plan))) (locks (tree_of v.plan) n) in
    λ e.
    let all : AreAllButFirst (length (keys (tree_of c.self.inside.plan.now))) (locks (tree_of c.self.inside.plan.now) n) = subst All (sym c.self.view_is) (c.moves-moves.ensures.all e) in
    let taken = subst (AreAllButFirst (length (keys (tree_of c.self.inside.plan.now)))) (sym c.locks-locks.ensures.locks) all in
    subst (λ (m : ℕ). AreAllButFirst m c.locks-locks.result.now) (sym c.self.invariant.lists.values_fit) taken

pub give_back-requires-clause-nothing : goal.give_back-requires-clause-nothing
give_back-requires-clause-nothing c = λ e.
    ap (list_any is_write) c.locks-locks.ensures.locks
    ∙ ap (λ (v : VaultView). takes_write (tree_of v.plan) c.args.node) c.self.view_is ∙ c.moves-moves.ensures.nothing e

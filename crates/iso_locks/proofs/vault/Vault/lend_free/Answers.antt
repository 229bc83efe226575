use Rattle.std.proofs.Common.{◌≡◌, ◌<◌, ℕ, List, length, map, set, None, Bool, true, is_some, ap, sym, ◌∙◌, subst, arith}
use Rattle.std.specs.List.{list_any}
use Rattle.iso_plan.specs.Conflicts.{lowest_in_the_way}
use Rattle.iso_plan.specs.HeldNodes.{HeldView}
use Rattle.iso_plan.specs.KeyTable.{keys}
use Rattle.iso_plan.specs.Locks.{is_write, locks, takes_write}
use Rattle.iso_plan.specs.Planned.{Planned}
use Rattle.iso_plan.specs.RowView.{tree_of}
use Rattle.iso_settings.specs.Worlds.{Start}
use Rattle.iso_locks.specs.Moves.{AreAllButFirst, is_written, moved_away}
use Rattle.iso_locks.specs.Slots.{Slots}
use Rattle.iso_locks.specs.Trays.{TrayView, is_lent}
use Rattle.iso_locks.specs.Vaults.{IsLentTo, IsVault, VaultView, busy, lending}
use Rattle.iso_locks.proofs.VaultLemmas.{home-all, home-lent, lent-to, lent-vault}
use Rattle.iso_locks.proofs.vault.Vault.lend_free.Goals as goal

pub invariant_of-self : goal.invariant_of-self
invariant_of-self c =
    let plan : Planned = c.self.inside.plan.now in
    let same : c.args.tray.now.plan ≡ plan = c.requires.can.plan ∙ sym (ap (λ (v : VaultView). v.plan) c.self.view_is) in
    let moved : c.receive.new.home ≡ moved_away (locks (tree_of plan) c.args.node) c.self.inside.values = c.receive.ensures.home
    ∙ ap (λ (p : Planned). moved_away (locks (tree_of p) c.args.node) c.self.inside.values) same in
    let rows : length plan.rows ≡ length c.args.self.now.plan.rows = ap (λ (v : VaultView). length v.plan.rows) c.self.view_is in
    let req = c.requires.can.node in
    let node : c.args.node < length plan.rows = omega arith in
    let P : Slots → Type 0 = λ h. IsVault plan c.self.inside.world.now (set c.self.inside.lent.held c.args.node true) h in
    record {
      lent_of = ap (λ (h : HeldView). h.plan) c.hold.ensures ∙ c.self.invariant.lent_of;
      one_group = c.self.invariant.one_group;
      lists =
          subst (λ (h : HeldView). IsVault plan c.self.inside.world.now h.held c.receive.new.home) (sym c.hold.ensures)
          (subst P (sym moved) (lent-vault plan c.self.inside.world.now c.self.inside.lent.held c.self.inside.values c.args.node node c.self.invariant.lists));
    }

pub returns-clause-vault : goal.returns-clause-vault
returns-clause-vault c =
    let plan : Planned = c.self.inside.plan.now in
    let same : c.args.tray.now.plan ≡ plan = c.requires.can.plan ∙ sym (ap (λ (v : VaultView). v.plan) c.self.view_is) in
    let moved : c.receive.new.home ≡ moved_away (locks (tree_of plan) c.args.node) c.self.inside.values = c.receive.ensures.home
    ∙ ap (λ (p : Planned). moved_away (locks (tree_of p) c.args.node) c.self.inside.values) same in
    let with_home : List Bool → VaultView = λ h. record { plan = plan; world = c.self.inside.world.now; lent = set c.self.inside.lent.held c.args.node true; home = h } in
    ap (λ (h : HeldView). record { plan = plan; world = c.self.inside.world.now; lent = h.held; home = map is_some c.receive.new.home }) c.hold.ensures
    ∙ ap with_home (ap (map is_some) moved ∙ home-lent (locks (tree_of plan) c.args.node) c.self.inside.values) ∙ ap (lending c.args.node) c.self.view_is

pub returns-clause-tray : goal.returns-clause-tray
returns-clause-tray c =
    let t : TrayView = c.args.tray.now in
    let plan : Planned = c.self.inside.plan.now in
    let same : plan ≡ t.plan = ap (λ (v : VaultView). v.plan) c.self.view_is ∙ sym c.requires.can.plan in
    let world : c.self.inside.world.now ≡ t.world = ap (λ (v : VaultView). v.world) c.self.view_is ∙ sym c.requires.can.world in
    let free : lowest_in_the_way (tree_of plan) (is_lent c.self.inside.lent.held) c.args.node ≡ None =
    ap (λ (u : VaultView). busy u c.args.node) c.self.view_is ∙ c.requires.free in
    let P : Planned → Type 0 = λ p. IsVault p c.self.inside.world.now c.self.inside.lent.held c.self.inside.values in
    let Q : Start → Type 0 = λ w. IsVault t.plan w c.self.inside.lent.held c.self.inside.values in
    let kept : IsVault t.plan t.world c.self.inside.lent.held c.self.inside.values = subst Q world (subst P same c.self.invariant.lists) in
    let F : Planned → Type 0 = λ p. lowest_in_the_way (tree_of p) (is_lent c.self.inside.lent.held) c.args.node ≡ None in
    let R : TrayView → Type 0 = λ u. IsLentTo c.args.node t u in
    let holds : is_lent (set t.lent c.args.node true) c.args.node ≡ true = ap (λ (u : TrayView). is_lent u.lent c.args.node) (sym c.receive.ensures.tray) ∙ c.receive.ensures.holds in
    subst R (sym c.receive.ensures.tray) (lent-to t c.self.inside.lent.held (map is_some c.self.inside.values) c.self.inside.values c.args.node kept (subst F same free) c.receive.ensures.fits
    holds c.receive.ensures.fresh)

pub receive-requires-clause-there : goal.receive-requires-clause-there
receive-requires-clause-there c =
    let plan : Planned = c.self.inside.plan.now in
    let n = c.args.node in
    let same : c.args.tray.now.plan ≡ plan = c.requires.can.plan ∙ sym (ap (λ (v : VaultView). v.plan) c.self.view_is) in
    let v : VaultView = record { plan = plan; world = c.self.inside.world.now; lent = c.self.inside.lent.held; home = map is_some c.self.inside.values } in
    let free : busy v n ≡ None =
    ap (λ (u : VaultView). busy u n) c.self.view_is ∙ c.requires.free in
    λ i w. home-all v c.self.inside.values n c.self.invariant.lists free i (ap (λ (p : Planned). is_written (locks (tree_of p) n) i) (sym same) ∙ w)

pub receive-requires-clause-beside : goal.receive-requires-clause-beside
receive-requires-clause-beside c =
    let plan : Planned = c.self.inside.plan.now in
    let n = c.args.node in
    let v : VaultView = record { plan = plan; world = c.self.inside.world.now; lent = c.self.inside.lent.held; home = map is_some c.self.inside.values } in
    c.requires.can.beside c.requires.free

pub hold-requires : goal.hold-requires
hold-requires c =
    let n = c.args.node in
    subst (λ (p : Planned). n < length p.rows) (sym c.self.invariant.lent_of) (subst (λ (v : VaultView). n < length v.plan.rows) (sym c.self.view_is) c.requires.can.node)

pub receive-requires-clause-all : goal.receive-requires-clause-all
receive-requires-clause-all c =
    let n = c.args.node in
    let All : VaultView → Type 0 = λ v. AreAllButFirst (length (keys (tree_of v.plan))) (locks (tree_of v.plan) n) in
    λ e.
    let all : AreAllButFirst (length (keys (tree_of c.self.inside.plan.now))) (locks (tree_of c.self.inside.plan.now) n) = subst All (sym c.self.view_is) (c.moves-moves.ensures.all e) in
    let taken = subst (AreAllButFirst (length (keys (tree_of c.self.inside.plan.now)))) (sym c.locks-locks.ensures.locks) all in
    subst (λ (m : ℕ). AreAllButFirst m c.locks-locks.result.now) (sym c.self.invariant.lists.values_fit) taken

pub receive-requires-clause-nothing : goal.receive-requires-clause-nothing
receive-requires-clause-nothing c = λ e.
    ap (list_any is_write) c.locks-locks.ensures.locks
    ∙ ap (λ (v : VaultView). takes_write (tree_of v.plan) c.args.node) c.self.view_is ∙ c.moves-moves.ensures.nothing e

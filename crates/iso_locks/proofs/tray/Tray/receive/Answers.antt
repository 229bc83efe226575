use Rattle.std.proofs.Common.{◌≡◌, ◌<◌, ℕ, List, length, set, Bool, true, false, is_some, ap, sym, ◌∙◌, subst, arith}
use Rattle.std.specs.Vec.{vec_capacity}
use Rattle.std.proofs.lemmas.List.{get_or-set_same, length-set}
use Rattle.iso_plan.specs.HeldNodes.{HeldView}
use Rattle.iso_plan.specs.KeyTable.{keys}
use Rattle.iso_plan.specs.Locks.{locks}
use Rattle.iso_plan.specs.Planned.{Planned}
use Rattle.iso_plan.specs.RowView.{tree_of}
use Rattle.iso_plan.specs.declared.lock.Lock.{Lock}
use Rattle.iso_plan.specs.Tree.{Row}
use Rattle.iso_locks.specs.Clashes.{clash}
use Rattle.iso_locks.specs.Moves.{AreWithin, is_written, moved_here}
use Rattle.iso_locks.specs.Owners.{AreOwned, IsTray}
use Rattle.iso_locks.specs.Slots.{Slots, slot}
use Rattle.iso_locks.specs.Trays.{TrayView, is_lent}
use Rattle.iso_locks.proofs.MoveLemmas.{here-count, locks-within}
use Rattle.iso_locks.proofs.OwnerLemmas.{owned-fresh, owned-more}
use Rattle.iso_locks.proofs.tray.Tray.receive.Goals as goal

pub move_values-requires-clause-within : goal.move_values-requires-clause-within
move_values-requires-clause-within c =
    let P : List Lock → Type 0 = λ ls. AreWithin (length c.self.inside.values) ls in
    let Q : ℕ → Type 0 = λ n. AreWithin n (locks (tree_of c.args.self.now.plan) c.args.node) in
    let same : length (keys (tree_of c.args.self.now.plan)) ≡ length c.self.inside.values = ap (λ (t : TrayView). length (keys (tree_of t.plan))) (sym c.self.view_is)
    ∙ sym c.self.invariant.values_fit in
    subst P (sym c.requires.taken) (subst Q same (locks-within (tree_of c.args.self.now.plan) c.args.node))

pub invariant_of-self : goal.invariant_of-self
invariant_of-self c =
    let Kept : HeldView → Type 0 = λ l. IsTray c.self.inside.plan.now c.self.inside.world.now c.self.inside.flat l c.move_values.new.here c.self.inside.starts
    (vec_capacity c.self.inside.frames) (vec_capacity c.self.inside.spare) c.self.inside.spare.items
    c.self.inside.handed c.self.inside.frames.items in
    subst Kept (sym c.lend.ensures) (record {
      lent_of = c.self.invariant.lent_of;
      lent_fits = length-set c.self.inside.lent.held c.args.node true ∙ c.self.invariant.lent_fits;
      values_fit = here-count c.args.taken.now c.args.home.now c.self.inside.values c.move_values.new.here c.move_values.ensures.here ∙ c.self.invariant.values_fit;
      starts_are = c.self.invariant.starts_are;
      has_room = c.self.invariant.has_room;
      are_handed = c.self.invariant.are_handed;
      are_owned =
          let tree = tree_of c.self.inside.plan.now in
          let n = c.args.node in
          let same : tree_of c.args.self.now.plan ≡ tree = ap (λ (t : TrayView). tree_of t.plan) (sym c.self.view_is) in
          let rows : length c.args.self.now.plan.rows ≡ length c.self.inside.plan.now.rows = ap (λ (t : TrayView). length t.plan.rows) (sym c.self.view_is) in
          let lent = c.self.inside.lent.held in
          let node = c.requires.node in
          let count = c.self.invariant.lent_fits in
          let fits : length c.args.home.now ≡ length c.self.inside.values = c.requires.home ∙ ap (λ (tr : List Row). length (keys tr)) same ∙ sym c.self.invariant.values_fit in
          let There : List Row → Type 0 = λ tr. (i : ℕ) → is_written (locks tr n) i ≡ true → is_some (slot c.args.home.now i) ≡ true in
          let Beside : TrayView → Type 0 = λ t. (m : ℕ) → is_lent t.lent m ≡ true → clash (tree_of t.plan) m n ≡ false in
          let moved : c.move_values.new.here ≡ moved_here (locks tree n) c.args.home.now c.self.inside.values =
          c.move_values.ensures.here ∙ ap (λ (ls : List Lock). moved_here ls c.args.home.now c.self.inside.values) (c.requires.taken ∙ ap (λ (tr : List Row). locks tr n) same) in
          let Own : Slots → Type 0 = λ vs. AreOwned tree c.self.inside.flat (set lent n true) vs in
          subst Own (sym moved)
          (owned-more tree c.self.inside.flat lent c.args.home.now c.self.inside.values n (omega arith) fits (subst There same c.requires.there)
          (subst Beside (sym c.self.view_is) c.requires.beside) c.self.invariant.are_owned);
    })

pub returns-clause-holds : goal.returns-clause-holds
returns-clause-holds c =
    let rows : length c.args.self.now.plan.rows ≡ length c.self.inside.plan.now.rows = ap (λ (t : TrayView). length t.plan.rows) (sym c.self.view_is) in
    let node = c.requires.node in
    let count = c.self.invariant.lent_fits in
    ap (λ (l : HeldView). is_lent l.held c.args.node) c.lend.ensures ∙ get_or-set_same c.self.inside.lent.held c.args.node true false (omega arith)

pub returns-clause-fresh : goal.returns-clause-fresh
returns-clause-fresh c =
    let Flat : TrayView → Type 0 = λ t. t.flat ≡ false → AreOwned (tree_of t.plan) false t.lent t.values in
    let inside : c.self.inside.flat ≡ false → AreOwned (tree_of c.self.inside.plan.now) false c.self.inside.lent.held c.self.inside.values =
    λ f. let Own : Bool → Type 0 = λ b. AreOwned (tree_of c.self.inside.plan.now) b c.self.inside.lent.held c.self.inside.values in subst Own f c.self.invariant.are_owned in
    let own = subst Flat c.self.view_is inside in
    λ f. owned-fresh (tree_of c.args.self.now.plan) c.args.self.now.lent c.args.self.now.values c.args.node (own f) c.requires.beside

pub lend-requires-clause-node : goal.lend-requires-clause-node
lend-requires-clause-node c =
    let n = c.args.node in
    subst (λ (p : Planned). n < length p.rows) (sym c.self.invariant.lent_of) (subst (λ (t : TrayView). n < length t.plan.rows) (sym c.self.view_is) c.requires.node)

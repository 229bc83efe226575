use Rattle.std.proofs.Common.{◌≡◌, ◌<◌, ℕ, List, length, set, true, false, ap, sym, ◌∙◌, subst}
use Rattle.std.specs.Vec.{vec_capacity}
use Rattle.std.proofs.lemmas.List.{length-set}
use Rattle.iso_plan.specs.HeldNodes.{HeldView}
use Rattle.iso_plan.specs.KeyTable.{keys}
use Rattle.iso_plan.specs.Locks.{locks}
use Rattle.iso_plan.specs.Planned.{Planned}
use Rattle.iso_plan.specs.RowView.{tree_of}
use Rattle.iso_plan.specs.declared.lock.Lock.{Lock}
use Rattle.iso_plan.specs.Tree.{Row}
use Rattle.iso_locks.specs.Moves.{AreAllButFirst, AreWithin, moved_away}
use Rattle.iso_locks.specs.Owners.{AreOwned, IsTray}
use Rattle.iso_locks.specs.Slots.{Slots}
use Rattle.iso_locks.specs.Trays.{TrayView, is_lent}
use Rattle.iso_locks.proofs.MoveLemmas.{there-count, locks-within}
use Rattle.iso_locks.proofs.OwnerLemmas.{lent-within, owned-less}
use Rattle.iso_locks.proofs.tray.Tray.give_back.Goals as goal

pub move_values-requires-clause-within : goal.move_values-requires-clause-within
move_values-requires-clause-within c =
    let P : List Lock → Type 0 = λ ls. AreWithin (length c.args.home.now) ls in
    let Q : ℕ → Type 0 = λ n. AreWithin n (locks (tree_of c.args.self.now.plan) c.args.node) in
    let same : length (keys (tree_of c.args.self.now.plan)) ≡ length c.args.home.now = sym c.requires.home in
    subst P (sym c.requires.taken) (subst Q same (locks-within (tree_of c.args.self.now.plan) c.args.node))

pub invariant_of-self : goal.invariant_of-self
invariant_of-self c =
    let Kept : HeldView → Type 0 = λ l. IsTray c.self.inside.plan.now c.self.inside.world.now c.self.inside.flat l c.move_values.new.there c.self.inside.starts
    (vec_capacity c.self.inside.frames) (vec_capacity c.self.inside.spare) c.self.inside.spare.items
    c.self.inside.handed c.self.inside.frames.items in
    subst Kept (sym c.take_back.ensures) (record {
      lent_of = c.self.invariant.lent_of;
      lent_fits = length-set c.self.inside.lent.held c.args.node false ∙ c.self.invariant.lent_fits;
      values_fit = there-count c.args.taken.now c.self.inside.values c.move_values.new.there c.move_values.ensures.there ∙ c.self.invariant.values_fit;
      starts_are = c.self.invariant.starts_are;
      has_room = c.self.invariant.has_room;
      are_handed = c.self.invariant.are_handed;
      are_owned =
          let tree = tree_of c.self.inside.plan.now in
          let n = c.args.node in
          let same : tree_of c.args.self.now.plan ≡ tree = ap (λ (t : TrayView). tree_of t.plan) (sym c.self.view_is) in
          let lent = c.self.inside.lent.held in
          let holds : is_lent lent n ≡ true = ap (λ (t : TrayView). is_lent t.lent n) c.self.view_is ∙ c.requires.holds in
          let moved : c.move_values.new.there ≡ moved_away (locks tree n) c.self.inside.values =
          c.move_values.ensures.there ∙ ap (λ (ls : List Lock). moved_away ls c.self.inside.values) (c.requires.taken ∙ ap (λ (tr : List Row). locks tr n) same) in
          let Own : Slots → Type 0 = λ vs. AreOwned tree c.self.inside.flat (set lent n false) vs in
          subst Own (sym moved) (owned-less tree c.self.inside.flat lent c.self.inside.values n (lent-within lent n holds) holds c.self.invariant.are_owned);
    })

pub take_back-requires-clause-node : goal.take_back-requires-clause-node
take_back-requires-clause-node c =
    let n = c.args.node in
    subst (λ (p : Planned). n < length p.rows) (sym c.self.invariant.lent_of) (subst (λ (t : TrayView). n < length t.plan.rows) (sym c.self.view_is) c.requires.node)

pub move_values-requires-clause-all : goal.move_values-requires-clause-all
move_values-requires-clause-all c =
    let same : length c.args.home.now ≡ length c.self.inside.values = c.requires.home ∙ ap (λ (t : TrayView). length (keys (tree_of t.plan))) (sym c.self.view_is) ∙ sym c.self.invariant.values_fit in
    λ e. subst (λ (m : ℕ). AreAllButFirst m c.args.taken.now) same (c.requires.all e)

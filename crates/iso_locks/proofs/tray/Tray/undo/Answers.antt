use Rattle.std.proofs.Common.{◌≡◌, length, ap, sym, subst, ◌∙◌}
use Rattle.std.specs.Option.{option_or}
use Rattle.iso_plan.proofs.ColumnLemmas.{length-column}
use Rattle.iso_plan.specs.RowView.{tree_of}
use Rattle.iso_locks.proofs.OwnerLemmas.{owned-still, restored-there}
use Rattle.iso_locks.specs.Owners.{AreOwned}
use Rattle.iso_locks.specs.Slots.{HasLater, Slots, slot}
use Rattle.iso_locks.specs.Trays.{TrayView, restored}
use Rattle.iso_locks.proofs.tray.Tray.undo.Goals as goal

column-count : (marks values next : Slots) → next ≡ restored marks values → length next ≡ length values
column-count marks values next e = ap length e ∙ length-column (λ i. option_or (slot marks i) (slot values i)) (length values)

pub invariant_of-self : goal.invariant_of-self
invariant_of-self c = record {
  lent_of = c.self.invariant.lent_of;
  lent_fits = c.self.invariant.lent_fits;
  values_fit = column-count c.args.mark.values c.self.inside.values c.go_back.new.values c.go_back.ensures ∙ c.self.invariant.values_fit;
  starts_are = c.self.invariant.starts_are;
  has_room = c.self.invariant.has_room;
  are_handed = c.self.invariant.are_handed;
  are_owned =
      let tree = tree_of c.self.inside.plan.now in
      let marks = c.args.mark.values in
      let values = c.self.inside.values in
      let same : restored marks values ≡ c.go_back.new.values = sym c.go_back.ensures in
      let Same : Slots → Type 0 = λ vs. AreOwned tree c.self.inside.flat c.self.inside.lent.held vs in
      subst Same same
      (owned-still tree c.self.inside.flat c.self.inside.lent.held values (restored marks values)
      (restored-there marks values
      (c.requires.fits ∙ ap (λ (t : TrayView). length t.values) (sym c.self.view_is))
      (λ i h e. subst (λ (t : TrayView). HasLater t.values i h) (sym c.self.view_is) (c.requires.later i h e)))
      c.self.invariant.are_owned);
}

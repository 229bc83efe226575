use Rattle.std.proofs.Common.{◌≡◌, ℕ, ◌<◌, List, length, Some, None, true, ap, sym, ◌∙◌, arith, subst}
use Rattle.std.proofs.lemmas.Result.{on_ok_weaker}
use Rattle.iso_model.specs.ResourceKeys.{spelling}
use Rattle.iso_model.specs.Resources.{changed_at}
use Rattle.iso_plan.specs.KeyTable.{keys}
use Rattle.iso_plan.specs.RowView.{tree_of}
use Rattle.iso_plan.specs.Tree.{Row}
use Rattle.iso_locks.specs.Slots.{Slots}
use Rattle.iso_locks.specs.Trays.{IsOnward, TrayView, content, has_at, has_value, number_of}
use Rattle.iso_locks.proofs.LawLemmas.{on-apply, on-there}
use Rattle.iso_locks.proofs.NumberLemmas.{number-within}
use Rattle.iso_locks.proofs.OwnerLemmas.{owned-still}
use Rattle.iso_locks.proofs.TouchLemmas.{changes, nothing-there}
use Rattle.iso_locks.proofs.tray.TrayTouch.change.Goals as goal

below : (tree : List Row) (k : List ℕ) (i : ℕ) (values : Slots) → number_of tree k ≡ Some i → length values ≡ length (keys tree) → i < length values
below tree k i values e fits = let less : i < length (keys tree) = number-within (keys tree) k (length (keys tree)) i e in omega arith

pub apply-requires : goal.apply-requires
apply-requires c =
    let tree = tree_of c.self.inside.plan.now in
    let at : number_of tree (spelling c.args.key) ≡ Some c.in-Some.number = sym c.in-Some.ensures in
    below tree (spelling c.args.key) c.in-Some.number c.self.inside.values at c.self.invariant.values_fit

pub returns-in-Some-clause-ok : goal.returns-in-Some-clause-ok
returns-in-Some-clause-ok c =
    let tree = tree_of c.self.inside.plan.now in
    let k = spelling c.args.key in
    let i = c.in-Some.number in
    let at : number_of tree k ≡ Some i = sym c.in-Some.ensures in
    let within = below tree k i c.self.inside.values at c.self.invariant.values_fit in
    let has : has_at c.self.inside.values (number_of tree k) ≡ true = ap (λ (t : TrayView). has_value t k) c.self.view_is ∙ c.requires.writes in
    on_ok_weaker c.apply.result
    (λ is. changes tree c.self.inside.world.now c.self.inside.lent.held c.self.inside.values c.apply.new.self k i c.args.change at has within is
    ∙ ap (λ (t : TrayView). changed_at (content t) k c.args.change) c.self.view_is)
    c.apply.ensures.ok

pub returns-in-None-clause-ok : goal.returns-in-None-clause-ok
returns-in-None-clause-ok c =
    let tree = tree_of c.self.inside.plan.now in
    let k = spelling c.args.key in
    let at : number_of tree k ≡ None = sym c.in-None.ensures in
    let has : has_at c.self.inside.values (number_of tree k) ≡ true = ap (λ (t : TrayView). has_value t k) c.self.view_is ∙ c.requires.writes in
    absurd (nothing-there c.self.inside.values (number_of tree k) at has)

pub returns-in-Some-clause-goes_on : goal.returns-in-Some-clause-goes_on
returns-in-Some-clause-goes_on c =
    let tree = tree_of c.self.inside.plan.now in
    let k = spelling c.args.key in
    let i = c.in-Some.number in
    let at : number_of tree k ≡ Some i = sym c.in-Some.ensures in
    let within = below tree k i c.self.inside.values at c.self.invariant.values_fit in
    let t : TrayView = record {
      plan = c.self.inside.plan.now;
      world = c.self.inside.world.now;
      flat = c.self.inside.flat;
      lent = c.self.inside.lent.held;
      values = c.self.inside.values;
      frames = c.self.inside.frames.items;
    } in
    subst (λ (u : TrayView). IsOnward u (record t { values = c.apply.new.self })) c.self.view_is
    (on-apply c.apply.result t c.apply.new.self i c.args.change within c.apply.ensures.ok c.apply.ensures.err)

pub invariant_of-self : goal.invariant_of-self
invariant_of-self c =
    let tree = tree_of c.self.inside.plan.now in
    let k = spelling c.args.key in
    let i = c.in-Some.number in
    let at : number_of tree k ≡ Some i = sym c.in-Some.ensures in
    let within = below tree k i c.self.inside.values at c.self.invariant.values_fit in
    let t : TrayView = record {
      plan = c.self.inside.plan.now;
      world = c.self.inside.world.now;
      flat = c.self.inside.flat;
      lent = c.self.inside.lent.held;
      values = c.self.inside.values;
      frames = c.self.inside.frames.items;
    } in
    let u : TrayView = record t { values = c.apply.new.self } in
    let on : IsOnward t u = on-apply c.apply.result t c.apply.new.self i c.args.change within c.apply.ensures.ok c.apply.ensures.err in
    record {
      lent_of = c.self.invariant.lent_of;
      lent_fits = c.self.invariant.lent_fits;
      values_fit = on.values.fits ∙ c.self.invariant.values_fit;
      starts_are = c.self.invariant.starts_are;
      has_room = c.self.invariant.has_room;
      are_handed = c.self.invariant.are_handed;
      are_owned = owned-still tree t.flat t.lent t.values u.values (on-there t u on.values) c.self.invariant.are_owned;
    }

use Rattle.std.proofs.Common.{◌≡◌, ℕ, List, Bool, length, map, replicate, Some, false, true, is_some, ap, sym, ◌∙◌, subst}
use Rattle.std.proofs.lemmas.List.{length-map, length-replicate}
use Rattle.iso_lifecycle.specs.Subjects.{started}
use Rattle.iso_locks.proofs.FlatLemmas.{at-start, full}
use Rattle.iso_locks.proofs.OwnerLemmas.{owned-none}
use Rattle.iso_locks.specs.Owners.{AreOwned}
use Rattle.iso_locks.specs.Slots.{Slots, slot}
use Rattle.iso_locks.specs.Trays.{TrayView, key_at}
use Rattle.iso_plan.specs.KeyTable.{keys}
use Rattle.iso_plan.specs.Planned.{Planned}
use Rattle.iso_plan.specs.RowView.{tree_of}
use Rattle.iso_settings.specs.Worlds.{Start, starting_value_in}
use Rattle.iso_store.specs.Histories.{History}
use Rattle.iso_locks.proofs.tray.Tray.flat.Goals as goal

abbrev AllThere : Slots → Planned → Type 0
AllThere values plan = map is_some values ≡ replicate (length (keys (tree_of plan))) true

abbrev AtStart : Slots → Planned → Start → Type 0
AtStart values plan world = (i : ℕ) (h : History) → slot values i ≡ Some h → h.now ≡ starting_value_in world (key_at (tree_of plan) i)

count : (values : Slots) (plan : Planned) → AllThere values plan → length values ≡ length (keys (tree_of plan))
count values plan e = sym (length-map values is_some) ∙ ap length e ∙ length-replicate (length (keys (tree_of plan))) true

pub invariant_of-tray : goal.invariant_of-tray
invariant_of-tray c =
    let plan_is : c.tray.inside.plan.now ≡ c.args.plan.now = ap (λ (t : TrayView). t.plan) (c.tray.view_is ∙ c.in_ok-tray.ensures) in
    let all : AllThere c.in_ok-tray-inside.field-0 c.tray.inside.plan.now = subst (AllThere c.in_ok-tray-inside.field-0) (sym plan_is) c.in_ok-tray-inside.ensures.fits in
    record {
      lent_of = c.tray.invariant.lent_of;
      lent_fits = c.tray.invariant.lent_fits;
      values_fit = count c.in_ok-tray-inside.field-0 c.tray.inside.plan.now all;
      starts_are = c.tray.invariant.starts_are;
      has_room = c.tray.invariant.has_room;
      are_handed = c.tray.invariant.are_handed;
      are_owned =
          let count = length c.args.plan.now.rows in
          let lent_is : c.tray.inside.lent.held ≡ replicate count false = ap (λ (t : TrayView). t.lent) (c.tray.view_is ∙ c.in_ok-tray.ensures) in
          let Own : List Bool → Type 0 = λ l. AreOwned (tree_of c.tray.inside.plan.now) true l c.in_ok-tray-inside.field-0 in
          subst Own (sym lent_is) (owned-none (tree_of c.tray.inside.plan.now) true count c.in_ok-tray-inside.field-0 (λ f i. absurd (cc)));
    }

pub returns-clause-every_value : goal.returns-clause-every_value
returns-clause-every_value c =
    let values : Slots = c.in_ok-tray-inside.field-0 in
    let plan_is : c.tray.inside.plan.now ≡ c.args.plan.now = ap (λ (t : TrayView). t.plan) (c.tray.view_is ∙ c.in_ok-tray.ensures) in
    let t : TrayView = record { plan = c.tray.inside.plan.now; world = c.tray.inside.world.now; flat = true; lent = c.tray.inside.lent.held; values = values; frames = c.tray.inside.frames.items } in
    full t (subst (AllThere values) (sym plan_is) c.in_ok-tray-inside.ensures.fits)

pub returns-clause-start : goal.returns-clause-start
returns-clause-start c =
    let values : Slots = c.in_ok-tray-inside.field-0 in
    let plan_is : c.tray.inside.plan.now ≡ c.args.plan.now = ap (λ (t : TrayView). t.plan) (c.tray.view_is ∙ c.in_ok-tray.ensures) in
    let world_is : c.tray.inside.world.now ≡ c.args.world.now = ap (λ (t : TrayView). t.world) (c.tray.view_is ∙ c.in_ok-tray.ensures) in
    let t : TrayView = record { plan = c.tray.inside.plan.now; world = c.tray.inside.world.now; flat = true; lent = c.tray.inside.lent.held; values = values; frames = c.tray.inside.frames.items } in
    let all : AllThere values t.plan = subst (AllThere values) (sym plan_is) c.in_ok-tray-inside.ensures.fits in
    let starts : AtStart values t.plan t.world =
    subst (λ (p : Planned). AtStart values p t.world) (sym plan_is) (subst (AtStart values c.args.plan.now) (sym world_is) c.in_ok-tray-inside.ensures.start) in
    at-start t (full t all) starts ∙ ap started world_is

pub returns-clause-lent : goal.returns-clause-lent
returns-clause-lent c = ap (λ (t : TrayView). t.lent) (c.tray.view_is ∙ c.in_ok-tray.ensures)

pub returns-clause-frames : goal.returns-clause-frames
returns-clause-frames c = ap (λ (t : TrayView). t.frames) (c.tray.view_is ∙ c.in_ok-tray.ensures)

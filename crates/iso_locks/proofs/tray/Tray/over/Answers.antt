use Rattle.std.proofs.Common.{◌≡◌, List, Bool, false, Option, None, length, replicate, ap, ap₂, sym, subst, ◌∙◌, arith}
use Rattle.std.proofs.lemmas.List.{length-replicate}
use Rattle.iso_plan.specs.HeldNodes.{HeldView}
use Rattle.iso_plan.specs.KeyTable.{keys}
use Rattle.iso_plan.specs.RowView.{tree_of}
use Rattle.iso_store.specs.Histories.{History}
use Rattle.iso_lifecycle.specs.Subjects.{Subject}
use Rattle.iso_locks.proofs.OwnerLemmas.{none-there, owned-none}
use Rattle.iso_locks.specs.Owners.{AreOwned}
use Rattle.iso_locks.specs.Slots.{Slots, slot}
use Rattle.iso_locks.specs.Trays.{TrayView}
use Rattle.iso_locks.proofs.tray.Tray.over.Goals as goal

pub invariant_of-result : goal.invariant_of-result
invariant_of-result c =
    let plan = c.args.plan.now in
    let none : Option History = None in
    let lent : c.in_ok-new.field-0.held ≡ replicate (length plan.rows) false = ap (λ (h : HeldView). h.held) c.in_ok-new.ensures in
    record {
      lent_of = ap (λ (h : HeldView). h.plan) c.in_ok-new.ensures;
      lent_fits = ap length lent ∙ length-replicate (length plan.rows) false;
      values_fit = ap length c.in_ok-empty.ensures ∙ length-replicate c.key_count-count.result none ∙ c.key_count-count.ensures;
      starts_are = c.starts.view_is ∙ c.requires;
      has_room =
          let depth_is = c.depth-depth.ensures in
          let frames = c.in_ok-with_capacity.ensures.exact in
          let spare = c.in_ok-with_capacity-2.ensures.exact in
          record { frames = omega arith; gathered = omega arith; empty = c.in_ok-with_capacity-2.ensures.items };
      are_handed = tt;
      are_owned =
          let Own : List Bool → Type 0 = λ l. AreOwned (tree_of plan) false l c.in_ok-empty.field-0 in
          subst Own (sym lent)
          (owned-none (tree_of plan) false (length plan.rows) c.in_ok-empty.field-0
          (λ f i. ap (λ (s : Slots). slot s i) c.in_ok-empty.ensures ∙ none-there c.key_count-count.result i));
    }

pub returns : goal.returns
returns c =
    let plan = c.args.plan.now in
    let none : Option History = None in
    let lent : c.in_ok-new.field-0.held ≡ replicate (length plan.rows) false = ap (λ (h : HeldView). h.held) c.in_ok-new.ensures in
    let values : c.in_ok-empty.field-0 ≡ replicate (length (keys (tree_of plan))) none = c.in_ok-empty.ensures ∙ ap (λ n. replicate n none) c.key_count-count.ensures in
    let with_parts : List Bool → Slots → List Subject → TrayView = λ l v f. record { plan = plan; world = c.args.world.now; flat = false; lent = l; values = v; frames = f } in
    ap₂ (λ (l : List Bool) (v : Slots). with_parts l v c.in_ok-with_capacity.field-0.items) lent values
    ∙ ap (with_parts (replicate (length plan.rows) false) (replicate (length (keys (tree_of plan))) none)) c.in_ok-with_capacity.ensures.items

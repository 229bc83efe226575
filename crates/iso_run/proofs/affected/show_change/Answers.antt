use Rattle.std.proofs.Common.{◌≡◌, ℕ, List, Option, IfSome, Bool, true, map, ap, subst, sym, ◌∙◌}
use Rattle.iso_affected_text.specs.Changes.{change_of}
use Rattle.iso_plan.specs.RowView.{tree_of}
use Rattle.iso_plan.specs.KeptNodes.{texts_of}
use Rattle.iso_run.proofs.Answering.{answered-as}
use Rattle.iso_run.proofs.affected.show_change.Goals as goal
use Rattle.iso_run.specs.Alterations.{StartsOtherwise, change_text}
use Rattle.iso_run.specs.Commands.{IsComparedIn}
use Rattle.iso_tap.specs.Sinks.{Wrote}

pub write_change-requires-clause-change : goal.write_change-requires-clause-change
write_change-requires-clause-change g c =
    let lent = c.lent_change-change.ensures in
    let so = c.in_ok-made.ensures.so in
    record {
      old = lent.old;
      new = lent.new;
      each = rw (lent.fates, lent.new_plan) so.each;
      told = rw (lent.told, lent.new_plan) so.told_each;
      before = c.args.was.now.state.suite.world;
      after = c.args.now.now.suite.world;
      fates = rw (lent.fates, lent.old_plan, lent.new_plan) so.fates;
      gone = rw (lent.gone, lent.old_plan) c.in_ok-made.ensures.nodes;
    }

pub returns : goal.returns
returns g c =
    let old = g.W.Sink.account c.args.output.now in
    let new = g.W.Sink.account c.write_change.new.output in
    let asked = c.args.asked in
    let was = c.args.was.now.state in
    let now = c.args.now.now in
    let missing = c.args.was.now.missing in
    let lent = c.lent_change-change.ensures in
    let change = change_of c.lent_change-change.result in
    let told : (ok : Bool) → (ok ≡ true) × Wrote old new (change_text asked.paths change asked.folder.now missing) → (ok ≡ true) × IsComparedIn asked was now c.args.names.now missing old new =
    λ ok h. (
      h.0,
      record {
        change = change;
        names = ap texts_of lent.names;
        old_tree = ap tree_of lent.old_plan;
        old_sites = lent.old_sites;
        old_texts = ap texts_of (lent.old_texts ∙ c.deref-5.ensures.value) ∙ c.in_ok-was_texts.ensures ∙ ap (map (λ v. v.items)) c.deref-3.ensures.value;
        new_tree = ap tree_of lent.new_plan;
        new_sites = lent.new_sites;
        new_texts = ap texts_of (lent.new_texts ∙ c.deref-6.ensures.value) ∙ c.in_ok-now_texts.ensures ∙ ap (map (λ v. v.items)) c.deref-4.ensures.value;
        altered = rw (lent.fates, lent.told, lent.gone) c.in_ok-made.ensures.so;
        property = subst (λ (o : Option (List ℕ)). IfSome o (StartsOtherwise was.suite.world now.suite.world)) (sym lent.property) c.in_ok-property.ensures;
        wrote = h.1;
      },
    ) in
    answered-as _ _ told ⊥ ⊥ (λ h. h) old new c.write_change.result c.write_change.ensures

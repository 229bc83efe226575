use Rattle.std.proofs.Common.{◌∙◌, sym, subst}
use Rattle.iso_store.specs.Histories.{History, IsEarlier}
use Rattle.iso_store.specs.Values.{history}
use Rattle.iso_store.proofs.MomentLemmas.{history-back, start-back}
use Rattle.iso_store.proofs.held.Held.undo_to.Goals as goal

pub invariant_of-self : goal.invariant_of-self
invariant_of-self c =
    let m = c.mark.inside.history.value in
    let inside = c.self.inside in
    let earlier : IsEarlier m (history inside.past.items inside.value) = subst (λ (m : History). IsEarlier m (history inside.past.items inside.value)) (sym c.mark.view_is)
    (subst (IsEarlier c.args.mark) (sym c.self.view_is) c.requires) in
    start-back inside.past.items c.truncate.new.self.items inside.value c.mark.inside.layers c.mark.inside.changes m earlier c.self.invariant c.mark.invariant c.truncate.ensures.items

pub returns : goal.returns
returns c =
    let m = c.mark.inside.history.value in
    let inside = c.self.inside in
    let earlier : IsEarlier m (history inside.past.items inside.value) = subst (λ (m : History). IsEarlier m (history inside.past.items inside.value)) (sym c.mark.view_is)
    (subst (IsEarlier c.args.mark) (sym c.self.view_is) c.requires) in
    history-back inside.past.items c.truncate.new.self.items inside.value c.mark.inside.layers c.mark.inside.changes m earlier c.self.invariant c.mark.invariant c.truncate.ensures.items
    ∙ c.mark.view_is

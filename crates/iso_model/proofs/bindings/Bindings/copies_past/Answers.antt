use Rattle.std.proofs.Common.{◌∙◌, ◌+◌, ◌++◌, ap, sym, append_assoc, drop, ◌∷◌, []}
use Rattle.iso_model.proofs.BindingLemmas.{Bindings, drop-next}
use Rattle.iso_model.proofs.bindings.Bindings.copies_past.Goals as goal

pub loop-place-preserved : goal.loop-place-preserved
loop-place-preserved c =
    let b = c.in_ok-copy_at.field-0 in
    let names = c.args.self.now in
    let i = c.loop-place.place in
    ap (λ (bs : Bindings). bs ++ drop (i + 1) names) c.in_ok-push.ensures.items
    ∙ append_assoc c.loop-place.copies.items (b ∷ []) (drop (i + 1) names)
    ∙ ap (λ (bs : Bindings). c.loop-place.copies.items ++ bs) (sym (drop-next names i b c.in_ok-copy_at.ensures))
    ∙ c.loop-place.invariant

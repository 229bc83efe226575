use Rattle.std.proofs.Common.{◌∙◌, ◌++◌, ap, sym, append_assoc, take, ◌∷◌, []}
use Rattle.iso_model.proofs.BindingLemmas.{Bindings, take-next}
use Rattle.iso_model.proofs.bindings.Bindings.append_copies.Goals as goal

pub loop-place-preserved : goal.loop-place-preserved
loop-place-preserved c =
    let b = c.in_ok-copy_at.field-0 in
    let more = c.args.more.now in
    c.in_ok-push.ensures.ok ∙ ap (λ (bs : Bindings). bs ++ b ∷ []) c.loop-place.invariant
    ∙ append_assoc c.args.self.now (take c.loop-place.place more) (b ∷ [])
    ∙ ap (λ (bs : Bindings). c.args.self.now ++ bs) (sym (take-next more c.loop-place.place b c.in_ok-copy_at.ensures))

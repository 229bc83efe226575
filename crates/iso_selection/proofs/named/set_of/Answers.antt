use Rattle.std.proofs.Common.{ℕ, List, ◌++◌, ◌∷◌, [], take, ap, sym, subst, ◌∙◌, arith}
use Rattle.std.proofs.lemmas.List.{take_more}
use Rattle.iso_model.specs.NameSets.{Knows}
use Rattle.iso_selection.proofs.named.set_of.Goals as goal

pub texts-preserved : goal.texts-preserved
texts-preserved c =
    let i = c.texts.text-index in
    let texts = c.args.texts.now in
    let text = c.text-item.result in
    let seen = take i texts in
    let claimed = c.in_ok-claim.ensures seen c.texts.invariant in
    subst (Knows c.claim.new.set) (ap (λ (t : List ℕ). seen ++ t ∷ []) (c.as_bytes.ensures.value ∙ c.as_str.ensures ∙ c.text-item.is) ∙ sym (take_more texts i text (omega arith))) claimed

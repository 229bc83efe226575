use Rattle.std.proofs.Common.{Bor, List, ap, filter, map, sym, take, ◌∙◌, ℕ}
use Rattle.std.proofs.lemmas.List.{take-map}
use Rattle.iso_explain_plan.specs.Unselected.{has_end}
use Rattle.iso_explain_plan.proofs.unselected.named_so.Goals as goal

pub returns : goal.returns
returns c =
    let now : Bor (List ℕ) → List ℕ = λ p. p.now in
    ap (map now) c.truncate.ensures.items ∙ sym (take-map now 3 c.in_ok-named.named.items)
    ∙ ap (take 3) (c.in_ok-named.ensures ∙ ap (λ (end : List ℕ). filter (has_end end) c.args.paths.now) (c.as_str.ensures ∙ c.in_ok-end.ensures))

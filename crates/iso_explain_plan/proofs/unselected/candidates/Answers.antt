use Rattle.std.proofs.Common.{Bor, List, ap, ap₂, map, sym, take, ◌∙◌, ℕ}
use Rattle.std.proofs.lemmas.List.{take-map}
use Rattle.iso_explain_plan.proofs.unselected.candidates.Goals as goal

pub returns : goal.returns
returns c =
    let now : Bor (List ℕ) → List ℕ = λ p. p.now in
    ap (map now) c.truncate.ensures.items ∙ sym (take-map now _ c.in_ok-candidates.candidates.items)
    ∙ ap₂ (λ (n : ℕ) (all : List (List ℕ)). take n all) c.most_candidates.ensures c.in_ok-candidates.ensures

use Rattle.std.proofs.Common.{Bor, List, ℕ, ap, map, ◌∙◌}
use Rattle.std.proofs.lemmas.Result.{IfOk-weaker}
use Rattle.iso_hints.proofs.NearestLemmas.{texts-of}
use Rattle.iso_hints.proofs.nearest.nearest_three.Goals as goal

pub returns : goal.returns
returns c =
    let near = ap (map (λ n. n.word.now)) c.as_slice.ensures.value ∙ c.in_ok-near.ensures.words in
    IfOk-weaker c.words.result _ _ (λ found is. ap (map (λ (w : Bor (List ℕ)). w.now)) is ∙ texts-of c.as_slice.result.now ∙ near) c.words.ensures

use Rattle.std.proofs.Common.{◌≤◌, Bor, List, ℕ, length, map, subst}
use Rattle.std.proofs.lemmas.List.{length-map, take_all}
use Rattle.iso_hints.specs.Ranks.{IsRanked}
use Rattle.iso_hints.proofs.NearestLemmas.{ranked-next}
use Rattle.iso_hints.proofs.nearest.ranked.Goals as goal

pub loop-candidate-preserved : goal.loop-candidate-preserved
loop-candidate-preserved c =
    rw c.in_ok-keep.ensures (ranked-next c.args.word.now c.args.candidates.now c.loop-candidate.candidate-index _ c.args.count c.loop-candidate.near.items c.in_ok-distance.distance
    c.loop-candidate-test.true c.in_ok-distance.ensures c.loop-candidate.invariant)

pub returns : goal.returns
returns c =
    let words = map (λ (w : Bor (List ℕ)). w.now) c.args.candidates.now in
    let end : length words ≤ c.loop-candidate.candidate-index = rw (length-map c.args.candidates.now (λ (w : Bor (List ℕ)). w.now)) c.loop-candidate-test.false in
    subst (λ (ws : List (List ℕ)). IsRanked c.args.word.now ws c.args.count c.loop-candidate.near.items) (take_all c.loop-candidate.candidate-index words end) c.loop-candidate.invariant

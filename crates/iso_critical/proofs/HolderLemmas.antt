-- The wait of a node that ended last, wait by wait.
use Rattle.std.proofs.Common.{◌≡◌, ◌<◌, ℕ, List, [], ◌∷◌, ◌++◌, ◌+◌, Option, None, get_or, take, length, refl, ap, sym, ◌∙◌}
use Rattle.std.proofs.lemmas.List.{take_more}
use Rattle.iso_critical.specs.Needs.{last_wait, noted}
use Rattle.iso_waits.specs.declared.wait.NodeWait.{NodeWait}

-- with one wait more
last-push : (n : ℕ) (found : Option NodeWait) (ws : List NodeWait) (w : NodeWait) → last_wait n found (ws ++ w ∷ []) ≡ noted n (last_wait n found ws) w
last-push n found [] w = refl
last-push n found (v ∷ vs) w = last-push n (noted n found v) vs w

last-more : (ws : List NodeWait) (i : ℕ) (d : NodeWait) (n : ℕ) → i < length ws → last_wait n None (take (i + 1) ws) ≡ noted n (last_wait n None (take i ws)) (get_or ws i d)
last-more ws i d n h = ap (λ (vs : List NodeWait). last_wait n None vs) (take_more ws i d h) ∙ last-push n None (take i ws) (get_or ws i d)

pub more : (xs ys : List (Option NodeWait)) (ws : List NodeWait) (i : ℕ) (w : NodeWait) (n : ℕ) → i < length ws → w ≡ get_or ws i w
    → get_or ys n None ≡ noted n (get_or xs n None) w → get_or xs n None ≡ last_wait n None (take i ws) → get_or ys n None ≡ last_wait n None (take (i + 1) ws)
more xs ys ws i w n h is step before =
    step
    ∙ ap (λ (o : Option NodeWait). noted n o w) before
    ∙ ap (noted n (last_wait n None (take i ws))) is
    ∙ sym (last-more ws i w n h)

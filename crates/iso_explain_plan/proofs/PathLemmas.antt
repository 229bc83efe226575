-- Paths that pass, one path after another.
use Rattle.std.proofs.Common.{◌≡◌, ◌<◌, ◌≤◌, ◌+◌, ℕ, List, [], ◌∷◌, ◌++◌, Bool, cond, filter, get_or, length, take, ap, ap₂, sym, ◌∙◌, refl}
use Rattle.std.proofs.lemmas.List.{take_all, take_more}
use Rattle.std.proofs.lemmas.List.Elements.{filter-append}

filter-next : (p : List ℕ → Bool) (xs : List (List ℕ)) (i : ℕ) (e : List ℕ) → i < length xs
    → filter p (take i xs) ++ cond (p (get_or xs i e)) (get_or xs i e ∷ []) [] ≡ filter p (take (i + 1) xs)
filter-next p xs i e h =
    let x = get_or xs i e in
    sym (ap (filter p) (take_more xs i e h) ∙ filter-append p (take i xs) (x ∷ []))

pub next-path : (p : List ℕ → Bool) (xs : List (List ℕ)) (i : ℕ) (e : List ℕ) (old new : List (List ℕ)) (b : Bool) (y : List ℕ)
    → i < length xs → b ≡ p y → y ≡ get_or xs i e → old ≡ filter p (take i xs) → new ≡ old ++ cond b (y ∷ []) []
    → new ≡ filter p (take (i + 1) xs)
next-path p xs i e old new b y h passes is before more =
    more
    ∙ ap₂ (λ (all : List (List ℕ)) (t : Bool). all ++ cond t (y ∷ []) []) before passes
    ∙ ap (λ (z : List ℕ). filter p (take i xs) ++ cond (p z) (z ∷ []) []) is
    ∙ filter-next p xs i e h

pub all-paths : (p : List ℕ → Bool) (xs : List (List ℕ)) (i : ℕ) (all : List (List ℕ)) → length xs ≤ i → all ≡ filter p (take i xs) → all ≡ filter p xs
all-paths p xs i all h is = is ∙ ap (filter p) (take_all i xs h)

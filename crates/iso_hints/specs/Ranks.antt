-- The near words that are kept while candidates are gone over.
use Rattle.std.specs.Prelude.{◌≡◌, ℕ, List, [], ◌∷◌, Option, Some, None, cond, map, nat_lt, take}
use Rattle.std.specs.Borrow.{Bor}
use Rattle.iso_hints.specs.Nearest.{distance, near_words}
use Rattle.iso_hints.specs.declared.nearest.Near.{Near}

-- near words in order, with one more behind those that are at most as far
abbrev pub put_near : List Near → Near → List Near
put_near [] new = new ∷ []
put_near (x ∷ xs) new = cond (nat_lt new.distance x.distance) (new ∷ x ∷ xs) (x ∷ put_near xs new)

-- at most `count` of them, with one candidate more where it has a distance
abbrev pub kept : ℕ → List Near → Bor (List ℕ) → Option ℕ → List Near
kept count near candidate None = near
kept count near candidate (Some d) =
    take count (put_near near (record { word = candidate; distance = d }))

-- each is as far as it says
abbrev pub AreMeasured : List ℕ → List Near → Type 0
AreMeasured word [] = Unit {0}
AreMeasured word (x ∷ xs) = (x.distance ≡ distance word x.word.now) × AreMeasured word xs

-- these are the first of the candidates that are near a word, at most `count`
pub record IsRanked (word : List ℕ) (candidates : List (List ℕ)) (count : ℕ)
    (near : List Near) : Type 0 where
  pub words : map (λ n. n.word.now) near ≡ take count (near_words word candidates)
  pub measured : AreMeasured word near

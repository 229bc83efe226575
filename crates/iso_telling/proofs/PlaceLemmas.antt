-- The places that are told of nodes.
use Rattle.std.proofs.Common.{◌≡◌, ℕ, List, [], ◌∷◌, map, refl, ap, ◌∙◌}
use Rattle.iso_summary.specs.Views.{LocatedView}
use Rattle.iso_telling.specs.ToldPlaces.{ToldView}

module _ (line : ℕ → ToldView) (place : ToldView → LocatedView) where
  place_by_line : (ns : List ℕ) → map place (map line ns) ≡ map (λ n. place (line n)) ns
  place_by_line [] = refl
  place_by_line (n ∷ ns) = ap (λ (ps : List LocatedView). place (line n) ∷ ps) (place_by_line ns)

  -- the places of lines are those of the nodes whose lines they are
  pub places-of-nodes : (told nodes : List ℕ) (lines : List ToldView) (places : List LocatedView)
      → nodes ≡ told → lines ≡ map line nodes → places ≡ map place lines → places ≡ map (λ n. place (line n)) told
  places-of-nodes told nodes lines places these at are =
      are ∙ ap (map place) at ∙ place_by_line nodes ∙ ap (map (λ n. place (line n))) these

-- Which property starts with another value.
use Rattle.std.specs.Prelude.{◌≡◌, ℕ, ◌<◌, List, Option, Some, None, length, slice_index_or, take}
use Rattle.std.specs.FinMap.{get}
use Rattle.std.specs.List.{All}
use Rattle.iso_model.specs.Resources.{property_in}
use Rattle.iso_model.specs.declared.resource.Resource.{Resource}
use Rattle.iso_settings.specs.Worlds.{Start}

-- the text with which a property starts, if it does
abbrev pub property_of : Start → List ℕ → Option (List ℕ)
property_of start name = get start.properties name

-- the text of a property that a value has
abbrev pub asked : Resource → List ℕ → Option (List ℕ)
asked value name = property_in (Some value) name

-- at the name at this place two functions differ, and at no name before it
pub record DiffersAt (f g : List ℕ → Option (List ℕ)) (names : List (List ℕ))
    (place : ℕ) : Type 0 where
  pub within : place < length names
  pub apart : (d : List ℕ) → f (slice_index_or names place d) ≡ g (slice_index_or names place d) → ⊥
  pub before : All (λ name. f name ≡ g name) (take place names)

-- the first of some names at which two functions differ, by its place
abbrev pub IsFirstName : (f g : List ℕ → Option (List ℕ)) → List (List ℕ) → Option ℕ → Type 0
IsFirstName f g names None = All (λ name. f name ≡ g name) names
IsFirstName f g names (Some place) = DiffersAt f g names place

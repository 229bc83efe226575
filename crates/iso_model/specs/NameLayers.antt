-- Shared names, some of which were given other values, and layers of them.
--
-- layers of names: Shared names with the values that some were given since (`given_from`), and the
-- names of layers, the outermost layer's first (`in_layers`); in which layer a place is (`IsAt`).
use Rattle.std.specs.Prelude.{◌≡◌, ℕ, suc, ◌+◌, ◌<◌, ◌≤◌, List, [], ◌∷◌, length, take, Option, Some, None}
use Rattle.std.specs.BTreeMap.{BTreeMap, get}
use Rattle.std.specs.List.{flat_map, slice_get}
use Rattle.std.specs.Ordering.{nat_cmp}
use Rattle.iso_model.specs.Names.{bound}
use Rattle.iso_model.specs.declared.data.Data.{Data}
use Rattle.iso_model.specs.declared.names.Binding.{Binding}

-- the value that the name at a place was given, if it was given one
abbrev pub given_at : BTreeMap ℕ Data → ℕ → Option Data
given_at given i = get nat_cmp given i

-- a name, with the value that it was given
abbrev pub with_given : Option Data → Binding → Binding
with_given None b = b
with_given (Some d) b = bound b.sort b.name d

-- the names from a place on, with the values that they were given
abbrev pub given_from : (ℕ → Option Data) → ℕ → List Binding → List Binding
given_from given i [] = []
given_from given i (b ∷ bs) = with_given (given i) b ∷ given_from given (suc i) bs

-- the names of layers, the outermost layer's first
abbrev pub in_layers : List (List Binding) → List Binding
in_layers layers = flat_map (λ names. names) layers

-- a place is in a layer, so far from its first name; or past all layers' names, so far
pub record IsAt (layers : List (List Binding)) (place layer inside : ℕ) : Type 0 where
  pub before : length (in_layers (take layer layers)) + inside ≡ place
  pub within : layer ≤ length layers
  pub inside_is : (names : List Binding) → slice_get layers layer ≡ Some names
      → inside < length names

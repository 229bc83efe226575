-- Where the visible names stand, as a map from their texts.
--
-- places of names: Whether a map has at each visible name the place where it stands first among
-- them (`Tells`); what it has at other names doesn't count.
use Rattle.std.specs.Prelude.{◌≡◌, ℕ, ◌<◌, Box, List, length, Option, Some, None}
use Rattle.std.specs.BTreeMap.{BTreeMap, get_by_text}
use Rattle.std.specs.Box.{box_value}
use Rattle.std.specs.List.{slice_get}
use Rattle.std.specs.declared.alloc.Global.{Global}
use Rattle.std.specs.declared.string.String.{String}
use Rattle.iso_model.specs.Names.{place_of}
use Rattle.iso_model.specs.declared.names.Binding.{Binding}

abbrev pub Places : Type 0
Places = BTreeMap (String Global) ℕ

-- at each visible name, the map has the place where it stands first; at any other it may have
-- anything
abbrev pub Tells : Places → List Binding → Type 0
Tells places names = (x : List ℕ) → place_of names x < length names → get_by_text places x
    ≡ Some (place_of names x)

-- the same, if there is a map
abbrev pub TellsWhereMade : Option (Box Places Global) → List Binding → Type 0
TellsWhereMade None names = Unit {0}
TellsWhereMade (Some places) names = Tells (box_value places) names

-- the name at a place, if there is one, stands there first
abbrev pub IsFirst : List Binding → ℕ → Type 0
IsFirst names i = (b : Binding) → slice_get names i ≡ Some b → place_of names b.name ≡ i

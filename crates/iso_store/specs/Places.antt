-- What was changed, by name, and properties with what was changed of them.
use Rattle.std.specs.Prelude.{ℕ, List, [], ◌∷◌, Option, Some, None}
use Rattle.std.specs.Coded.{Coded, coded_list, coded_option, coded_ℕ}
use Rattle.std.specs.FinMap.{entries, insert, remove}
use Rattle.iso_model.specs.NameMaps.{NameMap, name_map_code}
use Rattle.iso_model.specs.Properties.{Map}

-- the changed names, each with its text, or with none where it was cleared
abbrev pub Places : Type 0
Places = NameMap (Option (List ℕ))

-- places are stored as their entries
abbrev pub places_code : Coded Places
places_code = name_map_code (coded_option (coded_list coded_ℕ))

-- properties, with one of them given a text or cleared
abbrev pub given : Map → List ℕ → Option (List ℕ) → Map
given properties name None = remove properties name
given properties name (Some text) = insert properties name text

abbrev pub all_given : Map → List (List ℕ × Option (List ℕ)) → Map
all_given start [] = start
all_given start (e ∷ es) = given (all_given start es) e.0 e.1

-- properties, but for those that were changed
unfoldable pub overlaid : Map → Places → Map
overlaid properties places = all_given properties (entries places)

-- Properties as a map from names to texts.
use Rattle.std.specs.Prelude.{ℕ, List}
use Rattle.iso_model.specs.NameMaps.{NameMap}

-- a finite map of texts
abbrev pub Map : Type 0
Map = NameMap (List ℕ)

-- What layers of rights declare together: of a key that stands in several the innermost counts.
--
-- layers of rights: The keys of layers with their accesses, the innermost layer's first: of a key
-- that stands in several the innermost counts (`declared_in`).
use Rattle.std.specs.Prelude.{ℕ, List}
use Rattle.std.specs.Arc.{arc_value}
use Rattle.std.specs.List.{flat_map}
use Rattle.std.specs.declared.alloc.Global.{Global}
use Rattle.std.specs.declared.sync.Arc.{Arc}
use Rattle.iso_model.specs.declared.access.Access.{Access}
use Rattle.iso_model.specs.declared.rights.Layer.{Layer}

-- the keys of layers with their accesses, the innermost layer's first
abbrev pub declared_in : List (Arc Layer Global) → List (List ℕ × Access)
declared_in layers = flat_map (λ (l : Arc Layer Global). (arc_value l).entries) layers

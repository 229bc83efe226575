use Rattle.std.proofs.Common.{◌≡◌, drop, map}
use Rattle.std.specs.Arc.{arc_value}
use Rattle.iso_store.specs.Layers.{place_in}
use Rattle.iso_store.proofs.layers.Layers.place.Given as goal

abbrev pub invariant-loop-layer : goal.invariant-loop-layer
invariant-loop-layer l = place_in (map arc_value (drop l.layer-index l.layer-items)) l.name ≡ place_in l.self l.name

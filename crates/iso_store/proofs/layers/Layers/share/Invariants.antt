use Rattle.std.proofs.Common.{◌≡◌, map, take}
use Rattle.std.specs.Arc.{arc_value}
use Rattle.iso_store.proofs.layers.Layers.share.Given as goal

abbrev pub invariant-layers : goal.invariant-layers
invariant-layers l = map arc_value l.layers.items ≡ map arc_value (take l.layer-index l.layer-items)

use Rattle.std.proofs.Common.{◌≡◌, ◌+◌, ◌++◌, drop, length}
use Rattle.iso_model.specs.NameLayers.{in_layers}
use Rattle.iso_model.specs.Names.{place_of}
use Rattle.iso_model.proofs.bindings.Bindings.place_of.Given as goal

abbrev pub invariant-layers : goal.invariant-layers
invariant-layers l = record {
  place : l.before + place_of (in_layers (drop l.layer-index l.layer-items) ++ l.self-inside.own) l.name ≡ place_of l.self l.name;
  counted : l.before + length (in_layers (drop l.layer-index l.layer-items)) ≡ l.self-inside.outer;
}

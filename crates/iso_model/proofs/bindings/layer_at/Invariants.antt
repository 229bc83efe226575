use Rattle.std.proofs.Common.{◌≡◌, ◌+◌, take, length}
use Rattle.iso_model.specs.NameLayers.{in_layers}
use Rattle.iso_model.proofs.bindings.layer_at.Given as goal

abbrev pub invariant-loop-index : goal.invariant-loop-index
invariant-loop-index l = length (in_layers (take l.index l.layers)) + l.place ≡ l.fn.place

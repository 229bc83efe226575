use Rattle.std.proofs.Common.{◌≡◌, drop}
use Rattle.iso_model.specs.Layers.{declared_in}
use Rattle.iso_model.specs.ResourceKeys.{spelling}
use Rattle.iso_model.specs.Rights.{access_in}
use Rattle.iso_model.proofs.rights.Rights.access_of.Given as goal

abbrev pub invariant-loop-layer : goal.invariant-loop-layer
invariant-loop-layer l = access_in (declared_in (drop l.layer-index l.layer-items)) (spelling l.resource) ≡ access_in l.self (spelling l.resource)

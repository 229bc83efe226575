use Rattle.std.proofs.Common.{◌≡◌, ◌++◌, take}
use Rattle.iso_model.specs.Layers.{declared_in}
use Rattle.iso_model.proofs.rights.Rights.within.Given as goal

abbrev pub invariant-outer : goal.invariant-outer
invariant-outer l = declared_in l.layers.items ≡ declared_in l.initial.layers.items ++ declared_in (take l.outer-index l.outer-items)

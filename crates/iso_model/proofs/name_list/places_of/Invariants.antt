use Rattle.std.proofs.Common.{take}
use Rattle.iso_model.specs.NamePlaces.{Tells}
use Rattle.iso_model.proofs.name_list.places_of.Given as goal

abbrev pub invariant-loop-place : goal.invariant-loop-place
invariant-loop-place l = Tells l.places (take l.place l.bindings)

use Rattle.std.proofs.Common.{◌≡◌, ◌++◌, drop}
use Rattle.iso_model.specs.Names.{frozen}
use Rattle.iso_lifecycle.proofs.names.frozen.Given as goal

abbrev pub invariant-bindings : goal.invariant-bindings
invariant-bindings l = l.names.items ++ frozen (drop l.binding-index l.bindings) ≡ frozen l.bindings

use Rattle.std.proofs.Common.{◌≡◌, drop}
use Rattle.iso_model.specs.Memory.{value_at}
use Rattle.iso_model.specs.ResourceKeys.{spelling}
use Rattle.iso_model.proofs.memory.find.Given as goal

abbrev pub invariant-loop-held : goal.invariant-loop-held
invariant-loop-held l = value_at (drop l.held-index l.slots) (spelling l.key) ≡ value_at l.slots (spelling l.key)

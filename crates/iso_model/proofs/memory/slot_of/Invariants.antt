use Rattle.std.proofs.Common.{◌≡◌, ◌+◌, drop}
use Rattle.iso_model.specs.Memory.{slot_of}
use Rattle.iso_model.specs.ResourceKeys.{spelling}
use Rattle.iso_model.proofs.memory.slot_of.Given as goal

abbrev pub invariant-loop-held : goal.invariant-loop-held
invariant-loop-held l = record {
  counted : l.slot ≡ l.held-index;
  rest : slot_of (drop l.held-index l.slots) (spelling l.key) + l.slot ≡ slot_of l.slots (spelling l.key);
}

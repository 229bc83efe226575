use Rattle.std.proofs.Common.{take}
use Rattle.iso_model.specs.NameSets.{Knows}
use Rattle.iso_selection.proofs.named.set_of.Given as goal

abbrev pub invariant-texts : goal.invariant-texts
invariant-texts l = Knows l.set (take l.text-index l.texts)

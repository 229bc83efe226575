use Rattle.std.proofs.Common.{◌≡◌, take}
use Rattle.iso_plan.specs.KeptNodes.{texts_of}
use Rattle.iso_selection.proofs.plan.strs.Given as goal

abbrev pub invariant-texts : goal.invariant-texts
invariant-texts l = texts_of l.strs.items ≡ take l.text-index l.texts

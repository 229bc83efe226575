use Rattle.std.proofs.Common.{take}
use Rattle.iso_model.specs.NameSets.{Knows}
use Rattle.iso_plan.specs.KeptNodes.{texts_of}
use Rattle.iso_plan.proofs.kept_nodes.set_of.Given as goal

abbrev pub invariant-texts : goal.invariant-texts
invariant-texts l = Knows l.set (texts_of (take l.text-index l.only))

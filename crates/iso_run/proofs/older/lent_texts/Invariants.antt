use Rattle.std.proofs.Common.{◌≡◌, take}
use Rattle.iso_plan.specs.KeptNodes.{texts_of}
use Rattle.iso_run.proofs.older.lent_texts.Given as goal

abbrev pub invariant-loop-name : goal.invariant-loop-name
invariant-loop-name l = texts_of l.lent.items ≡ take l.name-index l.names

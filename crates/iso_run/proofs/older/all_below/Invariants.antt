use Rattle.std.proofs.Common.{◌≡◌, map, take}
use Rattle.iso_plan.specs.KeptNodes.{texts_of}
use Rattle.iso_run.specs.Alterations.{below}
use Rattle.iso_run.proofs.older.all_below.Given as goal

abbrev pub invariant-loop-name : goal.invariant-loop-name
invariant-loop-name l = l.all.items ≡ map (below l.folder) (texts_of (take l.name-index l.names))

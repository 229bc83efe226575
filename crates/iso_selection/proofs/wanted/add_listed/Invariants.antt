use Rattle.std.proofs.Common.{◌≡◌, ◌++◌, take, map}
use Rattle.iso_plan.specs.KeptNodes.{texts_of}
use Rattle.iso_selection.specs.Wishes.{path, wish_of}
use Rattle.iso_selection.proofs.wanted.add_listed.Given as goal

abbrev pub invariant-paths : goal.invariant-paths
invariant-paths l = map wish_of l.wanted.items ≡ map wish_of l.fn.wanted.items ++ map path (texts_of (take l.path-index l.path-items))

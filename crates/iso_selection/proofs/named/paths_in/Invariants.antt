use Rattle.std.proofs.Common.{take, map}
use Rattle.iso_model.specs.NameSets.{Knows}
use Rattle.iso_selection.specs.Wishes.{paths_in, wish_of}
use Rattle.iso_selection.proofs.named.paths_in.Given as goal

abbrev pub invariant-wanted : goal.invariant-wanted
invariant-wanted l = Knows l.asked (paths_in (take l.wish-index (map wish_of l.wanted)))

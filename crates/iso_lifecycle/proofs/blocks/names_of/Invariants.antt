use Rattle.std.proofs.Common.{◌≡◌, min}
use Rattle.iso_model.specs.Tests.{names_in}
use Rattle.iso_lifecycle.specs.Heads.{heads_in}
use Rattle.iso_lifecycle.specs.JobPlaces.{outside}
use Rattle.iso_lifecycle.proofs.blocks.names_of.Given as goal

abbrev pub invariant-loop-depth : goal.invariant-loop-depth
invariant-loop-depth l = l.count ≡ min (names_in (outside (heads_in l.classes) l.depth)) l.names

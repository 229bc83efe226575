use Rattle.std.proofs.Common.{take}
use Rattle.std.specs.List.{All}
use Rattle.iso_lifecycle.specs.Subjects.{IsOfClass}
use Rattle.iso_lifecycle.proofs.frame.are_of_classes.Given as goal

abbrev pub invariant-frames : goal.invariant-frames
invariant-frames l = All IsOfClass (take l.frame-index l.frames)

use Rattle.std.proofs.Common.{◌≡◌, take}
use Rattle.iso_model.specs.Openings.{statics_of}
use Rattle.iso_lifecycle.specs.Subjects.{frames_of}
use Rattle.iso_lifecycle.proofs.names.statics_of.Given as goal

abbrev pub invariant-frames : goal.invariant-frames
invariant-frames l = l.names ≡ statics_of (frames_of (take l.frame-index l.frames))

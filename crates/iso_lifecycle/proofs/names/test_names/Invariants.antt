use Rattle.std.proofs.Common.{◌≡◌, ◌++◌, drop}
use Rattle.iso_lifecycle.specs.Subjects.{names_seen}
use Rattle.iso_lifecycle.proofs.names.test_names.Given as goal

abbrev pub invariant-frames : goal.invariant-frames
invariant-frames l = l.names ++ names_seen (drop l.frame-index l.frames) ≡ names_seen l.frames

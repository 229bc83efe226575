-- What the origin of a body is.
use Rattle.std.specs.Prelude.{◌≡◌, List, map}
use Rattle.iso_lifecycle.specs.Subjects.{Subject, framed, subject}
use Rattle.iso_lifecycle.specs.declared.kind.BodyKind.{BodyKind}
use Rattle.iso_lifecycle.specs.declared.origin.Origin.{Origin}

abbrev pub subject_of_origin : Origin → Subject
subject_of_origin o = subject o.plan.now o.start.value o.node

abbrev pub kind_of_origin : Origin → BodyKind
kind_of_origin o = o.kind

-- frames are those that the body begins with
abbrev pub AreFrames : Origin → List Subject → Type 0
AreFrames o frames =
    frames ≡ map (subject o.plan.now o.start.value) (framed o.kind (subject_of_origin o))

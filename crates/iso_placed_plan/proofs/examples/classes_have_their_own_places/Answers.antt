use Rattle.std.proofs.Common.{refl}
use Rattle.iso_plan.specs.Paths.{path}
use Rattle.std.specs.Char.{encode_utf8}
use Rattle.std.specs.Fmt.{digits}
use Rattle.std.specs.Str.{chars}
use Rattle.iso_placed_plan.proofs.examples.classes_have_their_own_places.Goals as goal

pub returns-clause-class : goal.returns-clause-class
unfolding digits chars encode_utf8 path
returns-clause-class c = refl

pub returns-clause-inside : goal.returns-clause-inside
unfolding digits chars encode_utf8 path
returns-clause-inside c = refl

pub returns-clause-tests : goal.returns-clause-tests
unfolding digits chars encode_utf8 path
returns-clause-tests c = refl

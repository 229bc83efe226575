use Rattle.std.proofs.Common.{refl}
use Rattle.iso_plan.specs.Paths.{path}
use Rattle.std.specs.Char.{encode_utf8}
use Rattle.std.specs.Fmt.{digits}
use Rattle.std.specs.Str.{chars}
use Rattle.iso_summary.proofs.Computing.{unseen}
use Rattle.iso_junit.proofs.examples.classes_without_anything_to_tell_have_no_testsuite.Goals as goal

pub returns-clause-tests : goal.returns-clause-tests
unfolding digits chars encode_utf8 path unseen
returns-clause-tests c = refl

pub returns-clause-failed : goal.returns-clause-failed
unfolding digits chars encode_utf8 path unseen
returns-clause-failed c = refl

pub returns-clause-printed : goal.returns-clause-printed
unfolding digits chars encode_utf8 path unseen
returns-clause-printed c = refl

pub returns-clause-neither : goal.returns-clause-neither
unfolding digits chars encode_utf8 path unseen
returns-clause-neither c = refl

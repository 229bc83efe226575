use Rattle.std.proofs.Common.{refl}
use Rattle.iso_plan.specs.Paths.{path}
use Rattle.std.specs.Char.{encode_utf8}
use Rattle.std.specs.Fmt.{digits}
use Rattle.std.specs.Str.{chars}
use Rattle.iso_junit.proofs.examples.special_bytes_are_escaped.Goals as goal

pub returns-clause-named : goal.returns-clause-named
unfolding digits chars encode_utf8 path
returns-clause-named c = refl

pub returns-clause-numbered : goal.returns-clause-numbered
unfolding digits chars encode_utf8 path
returns-clause-numbered c = refl

pub returns-clause-again : goal.returns-clause-again
unfolding digits chars encode_utf8 path
returns-clause-again c = refl

pub returns-clause-as_they_are : goal.returns-clause-as_they_are
unfolding digits chars encode_utf8 path
returns-clause-as_they_are c = refl

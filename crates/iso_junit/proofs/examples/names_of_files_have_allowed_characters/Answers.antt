use Rattle.std.proofs.Common.{refl}
use Rattle.iso_plan.specs.Paths.{path}
use Rattle.std.specs.Char.{encode_utf8}
use Rattle.std.specs.Fmt.{digits}
use Rattle.std.specs.Str.{chars}
use Rattle.iso_summary.proofs.Computing.{unseen}
use Rattle.iso_junit.proofs.examples.names_of_files_have_allowed_characters.Goals as goal

pub returns-clause-control : goal.returns-clause-control
unfolding digits chars encode_utf8 path unseen
returns-clause-control c = refl

pub returns-clause-none : goal.returns-clause-none
unfolding digits chars encode_utf8 path unseen
returns-clause-none c = refl

pub returns-clause-as_they_are : goal.returns-clause-as_they_are
unfolding digits chars encode_utf8 path unseen
returns-clause-as_they_are c = refl

pub returns-clause-turned : goal.returns-clause-turned
unfolding digits chars encode_utf8 path unseen
returns-clause-turned c = refl

pub returns-clause-language_tag : goal.returns-clause-language_tag
unfolding digits chars encode_utf8 path unseen
returns-clause-language_tag c = refl

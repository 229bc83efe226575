use Rattle.std.proofs.Common.{refl}
use Rattle.iso_plan.specs.Paths.{path}
use Rattle.std.specs.Char.{encode_utf8}
use Rattle.std.specs.Fmt.{digits}
use Rattle.std.specs.Str.{chars}
use Rattle.iso_placed_plan.proofs.examples.script_without_a_name_is_standard_input.Goals as goal

pub returns-clause-alone : goal.returns-clause-alone
unfolding digits chars encode_utf8 path
returns-clause-alone c = refl

pub returns-clause-second : goal.returns-clause-second
unfolding digits chars encode_utf8 path
returns-clause-second c = refl

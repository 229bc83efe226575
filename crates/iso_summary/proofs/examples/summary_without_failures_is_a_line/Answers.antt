use Rattle.std.proofs.Common.{refl}
use Rattle.iso_plan.specs.Paths.{path}
use Rattle.std.specs.Char.{encode_utf8}
use Rattle.std.specs.Fmt.{digits}
use Rattle.std.specs.Str.{chars}
use Rattle.iso_summary.proofs.Computing.{unseen}
use Rattle.iso_summary.proofs.examples.summary_without_failures_is_a_line.Goals as goal

pub returns-clause-empty : goal.returns-clause-empty
unfolding digits chars encode_utf8 path unseen
returns-clause-empty c = refl

pub returns-clause-passed : goal.returns-clause-passed
unfolding digits chars encode_utf8 path unseen
returns-clause-passed c = refl

use Rattle.std.proofs.Common.{refl}
use Rattle.iso_plan.specs.Paths.{path}
use Rattle.std.specs.Fmt.{digits}
use Rattle.iso_durations.proofs.examples.times_have_six_decimals.Goals as goal

pub returns-clause-zero : goal.returns-clause-zero
unfolding digits path
returns-clause-zero c = refl

pub returns-clause-short : goal.returns-clause-short
unfolding digits path
returns-clause-short c = refl

pub returns-clause-long : goal.returns-clause-long
unfolding digits path
returns-clause-long c = refl

use Rattle.std.proofs.Common.{refl}
use Rattle.std.specs.Fmt.{digits}
use Rattle.iso_plan.specs.Paths.{path}
use Rattle.iso_stats.proofs.examples.times_are_told_in_three_units.Goals as goal

pub returns-clause-seconds : goal.returns-clause-seconds
unfolding digits path
returns-clause-seconds c = refl

pub returns-clause-cut : goal.returns-clause-cut
unfolding digits path
returns-clause-cut c = refl

pub returns-clause-one : goal.returns-clause-one
unfolding digits path
returns-clause-one c = refl

pub returns-clause-milliseconds : goal.returns-clause-milliseconds
unfolding digits path
returns-clause-milliseconds c = refl

pub returns-clause-few : goal.returns-clause-few
unfolding digits path
returns-clause-few c = refl

pub returns-clause-below : goal.returns-clause-below
unfolding digits path
returns-clause-below c = refl

pub returns-clause-none : goal.returns-clause-none
unfolding digits path
returns-clause-none c = refl

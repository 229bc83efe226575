use Rattle.std.proofs.Common.{refl}
use Rattle.iso_plan.specs.Paths.{path}
use Rattle.std.specs.Fmt.{digits}
use Rattle.iso_durations.proofs.examples.one_has_its_own_word.Goals as goal

pub returns-clause-one : goal.returns-clause-one
unfolding digits path
returns-clause-one c = refl

pub returns-clause-none : goal.returns-clause-none
unfolding digits path
returns-clause-none c = refl

pub returns-clause-many : goal.returns-clause-many
unfolding digits path
returns-clause-many c = refl

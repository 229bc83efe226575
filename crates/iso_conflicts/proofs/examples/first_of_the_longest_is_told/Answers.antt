use Rattle.std.proofs.Common.{refl}
use Rattle.iso_plan.specs.Paths.{path}
use Rattle.std.specs.Fmt.{digits}
use Rattle.iso_conflicts.proofs.examples.first_of_the_longest_is_told.Goals as goal

pub returns-clause-root : goal.returns-clause-root
unfolding digits path
returns-clause-root c = refl

pub returns-clause-class : goal.returns-clause-class
unfolding digits path
returns-clause-class c = refl

pub returns-clause-key : goal.returns-clause-key
unfolding digits path
returns-clause-key c = refl

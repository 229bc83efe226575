use Rattle.std.proofs.Common.{refl}
use Rattle.iso_plan.specs.Paths.{path}
use Rattle.std.specs.Fmt.{digits}
use Rattle.iso_why.proofs.examples.force_comes_before_marks.Goals as goal

pub returns-clause-off : goal.returns-clause-off
unfolding digits path
returns-clause-off c = refl

pub returns-clause-forced : goal.returns-clause-forced
unfolding digits path
returns-clause-forced c = refl

pub returns-clause-marked : goal.returns-clause-marked
unfolding digits path
returns-clause-marked c = refl

pub returns-clause-inherited : goal.returns-clause-inherited
unfolding digits path
returns-clause-inherited c = refl

pub returns-clause-top : goal.returns-clause-top
unfolding digits path
returns-clause-top c = refl

pub returns-clause-default : goal.returns-clause-default
unfolding digits path
returns-clause-default c = refl

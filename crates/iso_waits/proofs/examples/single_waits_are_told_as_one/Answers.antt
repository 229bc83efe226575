use Rattle.std.proofs.Common.{refl}
use Rattle.iso_plan.specs.Paths.{path}
use Rattle.iso_waits.proofs.examples.single_waits_are_told_as_one.Goals as goal

pub returns-clause-one : goal.returns-clause-one
unfolding path
returns-clause-one c = refl

pub returns-clause-two : goal.returns-clause-two
unfolding path
returns-clause-two c = refl

pub returns-clause-three : goal.returns-clause-three
returns-clause-three c = refl

pub returns-clause-none : goal.returns-clause-none
unfolding path
returns-clause-none c = refl

pub returns-clause-all : goal.returns-clause-all
unfolding path
returns-clause-all c = refl

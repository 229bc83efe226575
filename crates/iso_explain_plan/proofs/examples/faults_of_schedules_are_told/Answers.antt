use Rattle.std.proofs.Common.{refl}
use Rattle.std.specs.Fmt.{digits}
use Rattle.iso_explain_plan.proofs.examples.faults_of_schedules_are_told.Goals as goal

pub returns-clause-line : goal.returns-clause-line
unfolding digits
returns-clause-line c = refl

pub returns-clause-number : goal.returns-clause-number
unfolding digits
returns-clause-number c = refl

pub returns-clause-long : goal.returns-clause-long
unfolding digits
returns-clause-long c = refl

use Rattle.std.proofs.Common.{refl}
use Rattle.std.specs.Fmt.{digits}
use Rattle.iso_explain.specs.Explanations.{explanation}
use Rattle.iso_explain.proofs.examples.limits_are_told.Goals as goal

pub returns-clause-operands : goal.returns-clause-operands
unfolding explanation digits
returns-clause-operands c = refl

pub returns-clause-script : goal.returns-clause-script
unfolding explanation digits
returns-clause-script c = refl

pub returns-clause-name : goal.returns-clause-name
unfolding explanation digits
returns-clause-name c = refl

pub returns-clause-number : goal.returns-clause-number
unfolding explanation digits
returns-clause-number c = refl

pub returns-clause-display : goal.returns-clause-display
unfolding explanation digits
returns-clause-display c = refl

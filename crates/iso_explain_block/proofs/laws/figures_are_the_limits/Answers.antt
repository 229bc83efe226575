use Rattle.std.proofs.Common.{refl}
use Rattle.std.specs.Fmt.{digits}
use Rattle.iso_explain_block.proofs.laws.figures_are_the_limits.Goals as goal

pub returns-clause-steps : goal.returns-clause-steps
unfolding digits
returns-clause-steps c = refl

pub returns-clause-output : goal.returns-clause-output
unfolding digits
returns-clause-output c = refl

pub returns-clause-text : goal.returns-clause-text
unfolding digits
returns-clause-text c = refl

pub returns-clause-key : goal.returns-clause-key
unfolding digits
returns-clause-key c = refl

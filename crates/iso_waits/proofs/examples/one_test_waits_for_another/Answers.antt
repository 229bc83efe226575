use Rattle.std.proofs.Common.{refl}
use Rattle.iso_plan.specs.Paths.{path}
use Rattle.iso_waits.proofs.examples.one_test_waits_for_another.Goals as goal

pub returns-clause-waits : goal.returns-clause-waits
unfolding path
returns-clause-waits c = refl

pub returns-clause-first : goal.returns-clause-first
unfolding path
returns-clause-first c = refl

pub returns-clause-class : goal.returns-clause-class
unfolding path
returns-clause-class c = refl

pub returns-clause-unmeasured : goal.returns-clause-unmeasured
unfolding path
returns-clause-unmeasured c = refl

pub returns-clause-key : goal.returns-clause-key
unfolding path
returns-clause-key c = refl

pub returns-clause-apart : goal.returns-clause-apart
unfolding path
returns-clause-apart c = refl

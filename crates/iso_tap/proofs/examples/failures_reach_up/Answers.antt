use Rattle.std.proofs.Common.{refl}
use Rattle.iso_plan.specs.Paths.{path}
use Rattle.iso_tap.proofs.examples.failures_reach_up.Goals as goal

pub returns-clause-cart : goal.returns-clause-cart
unfolding path
returns-clause-cart c = refl

pub returns-clause-desk : goal.returns-clause-desk
unfolding path
returns-clause-desk c = refl

pub returns-clause-suite : goal.returns-clause-suite
unfolding path
returns-clause-suite c = refl

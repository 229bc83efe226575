use Rattle.std.proofs.Common.{refl}
use Rattle.iso_plan.specs.Paths.{path}
use Rattle.iso_tap.proofs.examples.what_is_not_ok_reaches_up.Goals as goal

pub returns-clause-fault : goal.returns-clause-fault
unfolding path
returns-clause-fault c = refl

pub returns-clause-blocked : goal.returns-clause-blocked
unfolding path
returns-clause-blocked c = refl

pub returns-clause-class : goal.returns-clause-class
unfolding path
returns-clause-class c = refl

pub returns-clause-below_it : goal.returns-clause-below_it
unfolding path
returns-clause-below_it c = refl

pub returns-clause-two_above : goal.returns-clause-two_above
unfolding path
returns-clause-two_above c = refl

pub returns-clause-beside_it : goal.returns-clause-beside_it
unfolding path
returns-clause-beside_it c = refl

use Rattle.std.proofs.Common.{refl}
use Rattle.std.specs.Fmt.{digits}
use Rattle.iso_tap.proofs.examples.blocks_tell_of_verdicts.Goals as goal

pub returns-clause-fault : goal.returns-clause-fault
unfolding digits
returns-clause-fault c = refl

pub returns-clause-blocked : goal.returns-clause-blocked
unfolding digits
returns-clause-blocked c = refl

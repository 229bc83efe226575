use Rattle.std.proofs.Common.{refl}
use Rattle.iso_hints.proofs.examples.positions_have_places.Goals as goal

pub returns-clause-first : goal.returns-clause-first
returns-clause-first c = refl

pub returns-clause-in_first : goal.returns-clause-in_first
returns-clause-in_first c = refl

pub returns-clause-second : goal.returns-clause-second
returns-clause-second c = refl

pub returns-clause-behind_the_last : goal.returns-clause-behind_the_last
returns-clause-behind_the_last c = refl

pub returns-clause-no_such_line : goal.returns-clause-no_such_line
returns-clause-no_such_line c = refl

pub returns-clause-from_nought : goal.returns-clause-from_nought
returns-clause-from_nought c = refl

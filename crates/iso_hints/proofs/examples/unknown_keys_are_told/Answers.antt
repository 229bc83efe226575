use Rattle.std.proofs.Common.{refl}
use Rattle.iso_hints.proofs.examples.unknown_keys_are_told.Goals as goal

pub returns-clause-meant : goal.returns-clause-meant
returns-clause-meant c = refl

pub returns-clause-nothing_near : goal.returns-clause-nothing_near
returns-clause-nothing_near c = refl

pub returns-clause-one_line : goal.returns-clause-one_line
returns-clause-one_line c = refl

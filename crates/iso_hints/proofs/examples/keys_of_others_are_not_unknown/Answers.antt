use Rattle.std.proofs.Common.{refl}
use Rattle.iso_hints.proofs.examples.keys_of_others_are_not_unknown.Goals as goal

pub returns-clause-setting : goal.returns-clause-setting
returns-clause-setting c = refl

pub returns-clause-last_setting : goal.returns-clause-last_setting
returns-clause-last_setting c = refl

pub returns-clause-mistyped : goal.returns-clause-mistyped
returns-clause-mistyped c = refl

pub returns-clause-table : goal.returns-clause-table
returns-clause-table c = refl

pub returns-clause-of_others : goal.returns-clause-of_others
returns-clause-of_others c = refl

pub returns-clause-beginning : goal.returns-clause-beginning
returns-clause-beginning c = refl

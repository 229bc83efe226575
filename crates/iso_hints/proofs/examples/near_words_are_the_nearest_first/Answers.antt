use Rattle.std.proofs.Common.{refl}
use Rattle.std.specs.Str.{chars}
use Rattle.strsim.specs.Edits.{cost_at, osa_from, osa_row}
use Rattle.iso_hints.proofs.examples.near_words_are_the_nearest_first.Goals as goal

pub returns-clause-nearest_first : goal.returns-clause-nearest_first
unfolding chars cost_at osa_from osa_row
returns-clause-nearest_first c = refl

pub returns-clause-equal_in_order : goal.returns-clause-equal_in_order
unfolding chars cost_at osa_from osa_row
returns-clause-equal_in_order c = refl

pub returns-clause-within_a_third : goal.returns-clause-within_a_third
unfolding chars cost_at osa_from osa_row
returns-clause-within_a_third c = refl

pub returns-clause-too_far : goal.returns-clause-too_far
unfolding chars cost_at osa_from osa_row
returns-clause-too_far c = refl

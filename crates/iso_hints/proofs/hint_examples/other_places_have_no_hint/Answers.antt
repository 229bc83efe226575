use Rattle.std.proofs.Common.{refl}
use Rattle.iso_hints.proofs.hint_examples.other_places_have_no_hint.Goals as goal

pub returns-clause-no_operand : goal.returns-clause-no_operand
returns-clause-no_operand c = refl

pub returns-clause-a_token_that_fits : goal.returns-clause-a_token_that_fits
returns-clause-a_token_that_fits c = refl

pub returns-clause-longer_word : goal.returns-clause-longer_word
returns-clause-longer_word c = refl

pub returns-clause-word_before_is_longer : goal.returns-clause-word_before_is_longer
returns-clause-word_before_is_longer c = refl

pub returns-clause-one_operator : goal.returns-clause-one_operator
returns-clause-one_operator c = refl

pub returns-clause-operator_without_operand : goal.returns-clause-operator_without_operand
returns-clause-operator_without_operand c = refl

pub returns-clause-assignment : goal.returns-clause-assignment
returns-clause-assignment c = refl

pub returns-clause-ended : goal.returns-clause-ended
returns-clause-ended c = refl

pub returns-clause-comment : goal.returns-clause-comment
returns-clause-comment c = refl

pub returns-clause-same_line : goal.returns-clause-same_line
returns-clause-same_line c = refl

pub returns-clause-unknown : goal.returns-clause-unknown
returns-clause-unknown c = refl

pub returns-clause-behind_the_end : goal.returns-clause-behind_the_end
returns-clause-behind_the_end c = refl

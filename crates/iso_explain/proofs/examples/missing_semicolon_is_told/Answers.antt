use Rattle.std.proofs.Common.{refl}
use Rattle.std.specs.Fmt.{digits}
use Rattle.iso_explain.specs.Explanations.{explanation}
use Rattle.iso_explain.proofs.examples.missing_semicolon_is_told.Goals as goal

pub returns-clause-before_a_brace : goal.returns-clause-before_a_brace
unfolding explanation digits
returns-clause-before_a_brace c = refl

pub returns-clause-behind_a_comment : goal.returns-clause-behind_a_comment
unfolding explanation digits
returns-clause-behind_a_comment c = refl

pub returns-clause-in_the_line : goal.returns-clause-in_the_line
unfolding explanation digits
returns-clause-in_the_line c = refl

pub returns-clause-another_operand : goal.returns-clause-another_operand
unfolding explanation digits
returns-clause-another_operand c = refl

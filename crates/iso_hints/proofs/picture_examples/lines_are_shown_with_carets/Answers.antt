use Rattle.std.proofs.Common.{refl}
use Rattle.std.specs.Fmt.{digits}
use Rattle.iso_hints.proofs.picture_examples.lines_are_shown_with_carets.Goals as goal

pub returns-clause-labelled : goal.returns-clause-labelled
unfolding digits
returns-clause-labelled c = refl

pub returns-clause-unlabelled : goal.returns-clause-unlabelled
unfolding digits
returns-clause-unlabelled c = refl

pub returns-clause-behind_the_end : goal.returns-clause-behind_the_end
unfolding digits
returns-clause-behind_the_end c = refl

pub returns-clause-too_wide : goal.returns-clause-too_wide
unfolding digits
returns-clause-too_wide c = refl

pub returns-clause-no_width : goal.returns-clause-no_width
unfolding digits
returns-clause-no_width c = refl

pub returns-clause-no_column : goal.returns-clause-no_column
unfolding digits
returns-clause-no_column c = refl

pub returns-clause-beyond : goal.returns-clause-beyond
unfolding digits
returns-clause-beyond c = refl

pub returns-clause-bytes : goal.returns-clause-bytes
unfolding digits
returns-clause-bytes c = refl

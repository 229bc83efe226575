use Rattle.std.proofs.Common.{refl}
use Rattle.std.specs.Fmt.{digits}
use Rattle.iso_explain.specs.Explanations.{explanation}
use Rattle.iso_explain.proofs.examples.open_brace_is_told_at_the_end.Goals as goal

pub returns-clause-new_line : goal.returns-clause-new_line
unfolding explanation digits
returns-clause-new_line c = refl

pub returns-clause-in_line : goal.returns-clause-in_line
unfolding explanation digits
returns-clause-in_line c = refl

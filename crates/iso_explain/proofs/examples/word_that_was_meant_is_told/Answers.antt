use Rattle.std.proofs.Common.{refl}
use Rattle.std.specs.Fmt.{digits}
use Rattle.iso_explain.specs.Explanations.{explanation}
use Rattle.std.specs.Str.{chars}
use Rattle.strsim.specs.Edits.{cost_at, osa_from, osa_row}
use Rattle.iso_explain.specs.Meant.{nearest_of}
use Rattle.iso_explain.proofs.examples.word_that_was_meant_is_told.Goals as goal

pub returns-clause-meant : goal.returns-clause-meant
unfolding nearest_of chars cost_at osa_from osa_row
returns-clause-meant c = refl

pub returns-clause-told : goal.returns-clause-told
unfolding explanation digits
returns-clause-told c = refl

pub returns-clause-far : goal.returns-clause-far
unfolding nearest_of chars cost_at osa_from osa_row
returns-clause-far c = refl

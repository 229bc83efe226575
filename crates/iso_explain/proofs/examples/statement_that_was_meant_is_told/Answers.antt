use Rattle.std.proofs.Common.{refl}
use Rattle.std.specs.Fmt.{digits}
use Rattle.iso_explain.specs.Explanations.{explanation}
use Rattle.std.specs.Str.{chars}
use Rattle.strsim.specs.Edits.{cost_at, osa_from, osa_row}
use Rattle.iso_explain.specs.Meant.{nearest_of}
use Rattle.iso_explain.proofs.examples.statement_that_was_meant_is_told.Goals as goal

pub returns-clause-meant : goal.returns-clause-meant
unfolding nearest_of chars cost_at osa_from osa_row
returns-clause-meant c = refl

pub returns-clause-below_a_comment : goal.returns-clause-below_a_comment
unfolding nearest_of chars cost_at osa_from osa_row
returns-clause-below_a_comment c = refl

pub returns-clause-behind_let : goal.returns-clause-behind_let
unfolding nearest_of chars cost_at osa_from osa_row
returns-clause-behind_let c = refl

pub returns-clause-form : goal.returns-clause-form
unfolding explanation digits
returns-clause-form c = refl

pub returns-clause-all : goal.returns-clause-all
unfolding explanation digits
returns-clause-all c = refl

use Rattle.std.proofs.Common.{refl}
use Rattle.std.specs.Fmt.{digits}
use Rattle.std.specs.Str.{chars}
use Rattle.strsim.specs.Edits.{cost_at, osa_from, osa_row}
use Rattle.iso_summary.proofs.Computing.{unseen}
use Rattle.iso_explain_plan.proofs.examples.what_was_meant_is_told.Goals as goal

pub returns-clause-team : goal.returns-clause-team
unfolding digits chars cost_at osa_from osa_row unseen
returns-clause-team c = refl

pub returns-clause-name : goal.returns-clause-name
unfolding digits chars cost_at osa_from osa_row unseen
returns-clause-name c = refl

pub returns-clause-names : goal.returns-clause-names
unfolding digits chars cost_at osa_from osa_row unseen
returns-clause-names c = refl

pub returns-clause-near : goal.returns-clause-near
unfolding digits chars cost_at osa_from osa_row unseen
returns-clause-near c = refl

pub returns-clause-star : goal.returns-clause-star
unfolding digits chars cost_at osa_from osa_row unseen
returns-clause-star c = refl

pub returns-clause-far : goal.returns-clause-far
unfolding digits chars cost_at osa_from osa_row unseen
returns-clause-far c = refl

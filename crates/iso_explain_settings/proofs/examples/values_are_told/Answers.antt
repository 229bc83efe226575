use Rattle.std.proofs.Common.{refl}
use Rattle.std.specs.Str.{chars}
use Rattle.strsim.specs.Edits.{cost_at, osa_from, osa_row}
use Rattle.iso_explain_settings.specs.Wanted.{nearest_of}
use Rattle.iso_summary.proofs.Computing.{unseen}
use Rattle.iso_explain_settings.proofs.examples.values_are_told.Goals as goal

pub returns-clause-near : goal.returns-clause-near
unfolding nearest_of chars cost_at osa_from osa_row unseen
returns-clause-near c = refl

pub returns-clause-hint : goal.returns-clause-hint
unfolding nearest_of chars cost_at osa_from osa_row unseen
returns-clause-hint c = refl

pub returns-clause-point : goal.returns-clause-point
unfolding nearest_of
returns-clause-point c x = refl

pub returns-clause-custom : goal.returns-clause-custom
unfolding nearest_of chars cost_at osa_from osa_row unseen
returns-clause-custom c = refl

pub returns-clause-range : goal.returns-clause-range
unfolding nearest_of
returns-clause-range c = refl

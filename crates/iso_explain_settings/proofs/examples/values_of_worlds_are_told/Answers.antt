use Rattle.std.proofs.Common.{refl}
use Rattle.std.specs.Fmt.{digits}
use Rattle.std.specs.Str.{chars}
use Rattle.strsim.specs.Edits.{cost_at, osa_from, osa_row}
use Rattle.iso_explain_settings.specs.Wanted.{nearest_of}
use Rattle.iso_summary.proofs.Computing.{unseen}
use Rattle.iso_explain_settings.proofs.examples.values_of_worlds_are_told.Goals as goal

pub returns-clause-quotes : goal.returns-clause-quotes
unfolding nearest_of
returns-clause-quotes c = refl

pub returns-clause-key : goal.returns-clause-key
unfolding nearest_of chars cost_at osa_from osa_row unseen
returns-clause-key c = refl

pub returns-clause-table : goal.returns-clause-table
unfolding nearest_of chars cost_at osa_from osa_row unseen
returns-clause-table c = refl

pub returns-clause-header : goal.returns-clause-header
unfolding nearest_of
returns-clause-header c = refl

pub returns-clause-hidden : goal.returns-clause-hidden
unfolding nearest_of
returns-clause-hidden c = refl

pub returns-clause-long : goal.returns-clause-long
unfolding nearest_of digits
returns-clause-long c = refl

use Rattle.std.proofs.Common.{refl}
use Rattle.std.specs.Str.{chars}
use Rattle.strsim.specs.Edits.{cost_at, osa_from, osa_row}
use Rattle.iso_hints.proofs.examples.keys_that_were_meant_are_found.Goals as goal

pub returns-clause-last_segment : goal.returns-clause-last_segment
unfolding chars cost_at osa_from osa_row
returns-clause-last_segment c = refl

pub returns-clause-inner_segment : goal.returns-clause-inner_segment
unfolding chars cost_at osa_from osa_row
returns-clause-inner_segment c = refl

pub returns-clause-segment_left_out : goal.returns-clause-segment_left_out
unfolding chars cost_at osa_from osa_row
returns-clause-segment_left_out c = refl

pub returns-clause-another_key : goal.returns-clause-another_key
unfolding chars cost_at osa_from osa_row
returns-clause-another_key c = refl

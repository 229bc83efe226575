use Rattle.std.proofs.Common.{refl}
use Rattle.std.specs.Str.{chars}
use Rattle.strsim.specs.Edits.{cost_at, osa_from, osa_row}
use Rattle.iso_hints.proofs.examples.distances_count_edits.Goals as goal

pub returns-clause-same : goal.returns-clause-same
unfolding chars cost_at osa_from osa_row
returns-clause-same c = refl

pub returns-clause-put_in : goal.returns-clause-put_in
unfolding chars cost_at osa_from osa_row
returns-clause-put_in c = refl

pub returns-clause-left_out : goal.returns-clause-left_out
unfolding chars cost_at osa_from osa_row
returns-clause-left_out c = refl

pub returns-clause-changed : goal.returns-clause-changed
unfolding chars cost_at osa_from osa_row
returns-clause-changed c = refl

pub returns-clause-swapped : goal.returns-clause-swapped
unfolding chars cost_at osa_from osa_row
returns-clause-swapped c = refl

pub returns-clause-from_nothing : goal.returns-clause-from_nothing
unfolding chars cost_at osa_from osa_row
returns-clause-from_nothing c = refl

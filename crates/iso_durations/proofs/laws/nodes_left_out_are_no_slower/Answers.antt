use Rattle.std.proofs.Common.{length}
use Rattle.iso_durations.specs.Times.{is_measured, measured, micros}
use Rattle.iso_durations.proofs.ListLemmas.{left-out}
use Rattle.iso_durations.proofs.TimesLemmas.{those-differ}
use Rattle.iso_durations.proofs.laws.nodes_left_out_are_no_slower.Goals as goal

pub returns : goal.returns
returns c tree times most m n here measured_too out =
    left-out (micros times) most (measured tree times) m n (those-differ (is_measured times) (length tree)) here measured_too out

use Rattle.std.proofs.Common.{length}
use Rattle.iso_durations.specs.Times.{is_measured, measured, micros}
use Rattle.iso_durations.proofs.ListLemmas.{listed-pairs}
use Rattle.iso_durations.proofs.TimesLemmas.{those-differ}
use Rattle.iso_durations.proofs.laws.slower_nodes_stand_first.Goals as goal

pub returns : goal.returns
returns c tree times most = listed-pairs (micros times) most (measured tree times) (those-differ (is_measured times) (length tree))

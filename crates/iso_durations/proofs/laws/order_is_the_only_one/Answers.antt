use Rattle.std.proofs.Common.{length}
use Rattle.iso_durations.specs.Times.{is_measured, measured, micros}
use Rattle.iso_durations.proofs.ListLemmas.{only-one}
use Rattle.iso_durations.proofs.TimesLemmas.{those-differ}
use Rattle.iso_durations.proofs.laws.order_is_the_only_one.Goals as goal

pub returns : goal.returns
returns c tree times nodes ordered same =
    only-one (micros times) nodes (measured tree times) (those-differ (is_measured times) (length tree)) ordered same

use Rattle.std.proofs.Common.{◌≡◌, ◌<◌, length, arith, true}
use Rattle.iso_durations.specs.Orders.{slowest_first}
use Rattle.iso_durations.specs.Times.{is_measured, measured, micros}
use Rattle.iso_durations.proofs.ListLemmas.{first-every, slowest-every}
use Rattle.iso_durations.proofs.TimesLemmas.{those-below, those-pass}
use Rattle.iso_durations.proofs.laws.listed_nodes_were_measured.Goals as goal

pub returns-clause-measured : goal.returns-clause-measured
returns-clause-measured c tree times most =
    first-every (λ n. is_measured times n ≡ true) most (slowest_first (micros times) (measured tree times))
    (slowest-every (λ n. is_measured times n ≡ true) (micros times) (measured tree times) (those-pass (is_measured times) (length tree)))

pub returns-clause-within : goal.returns-clause-within
returns-clause-within c tree times most =
    first-every (λ n. n < length tree) most (slowest_first (micros times) (measured tree times))
    (slowest-every (λ n. n < length tree) (micros times) (measured tree times) (those-below (is_measured times) (length tree) (length tree) (omega arith)))

-- The nodes that are listed.
use Rattle.std.specs.Prelude.{ℕ, List, Option}
use Rattle.iso_plan.specs.Tree.{Row}
use Rattle.iso_durations.specs.Orders.{first_of, slowest_first}
use Rattle.iso_durations.specs.Times.{measured, micros}

-- the `most` slowest of those that were measured, or all of them where this is 0
abbrev pub listed : List Row → (times : List (Option ℕ)) → (most : ℕ) → List ℕ
listed tree times most = first_of most (slowest_first (micros times) (measured tree times))

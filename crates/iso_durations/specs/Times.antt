-- What was measured of a run's nodes.
--
-- slowest tests and classes: Which nodes were measured (`measured`); which of two comes before the
-- other (`is_before`), nodes in that order (`slowest_first`), and the first `most`, or all
-- (`first_of`, `listed`).
-- Also in: `Orders`, `Listed`.
use Rattle.std.specs.Prelude.{ℕ, List, Option, None, Bool, ◌&&◌, is_some, length, not, slice_index_or, unwrap_or}
use Rattle.iso_plan.specs.Paths.{is_root}
use Rattle.iso_plan.specs.KeptNodes.{those_below}
use Rattle.iso_plan.specs.Tree.{Row}

-- the microseconds that a node's bodies took, none where none of them was measured
abbrev pub time : (times : List (Option ℕ)) → ℕ → Option ℕ
time times n = slice_index_or times n None

-- the same as a number
abbrev pub micros : (times : List (Option ℕ)) → ℕ → ℕ
micros times n = unwrap_or (time times n) 0

-- whether a node was measured; the root has no bodies
abbrev pub is_measured : (times : List (Option ℕ)) → ℕ → Bool
is_measured times n = not (is_root n) && is_some (time times n)

-- the tests and classes that were measured, as they are written
abbrev pub measured : List Row → (times : List (Option ℕ)) → List ℕ
measured tree times = those_below (is_measured times) (length tree)

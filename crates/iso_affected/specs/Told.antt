-- What is told of the nodes of a new suite.
--
-- what is told of nodes: What differs of each changed node and its namesake, by the node's number
-- (`AreDifferences`), and whether something does (`tells`); the first of some names of properties
-- that start with another value (`IsFirstName`); how many tests have which fate (`counts`).
-- Also in: `PropertyStarts`, `Counting`.
use Rattle.std.specs.Prelude.{◌≡◌, ℕ, ◌<◌, List, Option, Some, None, Bool, false, not, length, slice_index_or}
use Rattle.iso_affected.specs.Fates.{Suites}
use Rattle.iso_affected.specs.Reasons.{IsDifference, is_nothing}
use Rattle.iso_affected.specs.declared.affected.Fate.{Fate}
use Rattle.iso_affected.specs.declared.affected.Fate.TheVariants.{Same, Changed, New}
use Rattle.iso_affected.specs.declared.difference.Difference.{Difference}
use Rattle.iso_plan.specs.Paths.{row_at}
use Rattle.iso_plan.specs.RowView.{tree_of}
use Rattle.iso_suites.specs.PlanSuites.{head_of}

-- what differs of a changed node and its namesake, of what they have themselves; nothing is told of
-- another node
abbrev pub IsDifferenceOf : Suites → ℕ → Fate → Option Difference → Type 0
IsDifferenceOf s n (Same m) o = o ≡ None
IsDifferenceOf s n (Changed m) None = ⊥
IsDifferenceOf s n (Changed m) (Some d) = IsDifference s.before s.after
    (head_of (row_at (tree_of s.old) m).kind) (head_of (row_at (tree_of s.new) n).kind) d
IsDifferenceOf s n New o = o ≡ None

-- that stands at each node's number
abbrev pub AreDifferences : Suites → List Fate → List (Option Difference) → Type 0
AreDifferences s fates told = (n : ℕ) → 0 < n → n < length s.new.rows
    → IsDifferenceOf s n (slice_index_or fates n New) (slice_index_or told n None)

-- whether something is told to differ
abbrev pub tells_apart : Option Difference → Bool
tells_apart None = false
tells_apart (Some d) = not (is_nothing d)

-- the same of a node
abbrev pub tells : List (Option Difference) → ℕ → Bool
tells told n = tells_apart (slice_index_or told n None)

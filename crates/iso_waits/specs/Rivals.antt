-- The stays of nodes that conflict with a node.
use Rattle.std.specs.Prelude.{◌≡◌, ℕ, ◌<◌, List, Option, Some, None, Bool, ⊤, filter, length}
use Rattle.std.specs.List.{All}
use Rattle.std.specs.List.Sorted.{IsNonDecreasingBy, IsPermutation}
use Rattle.iso_plan.specs.Locks.{conflict}
use Rattle.iso_plan.specs.Planned.{Planned}
use Rattle.iso_plan.specs.Tree.{Row}
use Rattle.iso_times.specs.declared.times.BodyTime.{BodyTime}
use Rattle.iso_waits.specs.Moments.{begin_of}
use Rattle.iso_waits.specs.Stays.{stays_below}
use Rattle.iso_waits.specs.declared.stay.Stay.{Stay}

-- what waits are worked out from: the plan of a run, and the times of its bodies
pub record Ran : Type 0 where
  pub plan : Planned
  pub bodies : List (Option BodyTime)

-- a stay is that of a node of a tree
abbrev pub IsAmong : List Row → Stay → Type 0
IsAmong tree s = s.node < length tree

-- whether a stay's node conflicts with a node
abbrev pub is_rival : List Row → ℕ → Stay → Bool
is_rival tree n s = conflict tree s.node n

-- those of some stays whose nodes conflict with a node
abbrev pub rivals : List Row → List Stay → ℕ → List Stay
rivals tree stays n = filter (is_rival tree n) stays

-- a node, if there is one, has these rivals
abbrev pub AreKnown : List Row → List Stay → Option ℕ → List Stay → Type 0
AreKnown tree stays None found = ⊤
AreKnown tree stays (Some m) found = found ≡ rivals tree stays m

-- these are all stays of a run, in the order of their begins
pub record AreStays (tree : List Row) (bodies : List (Option BodyTime))
    (stays : List Stay) : Type 0 where
  pub all : IsPermutation (stays_below bodies (length tree)) stays
  pub among : All (IsAmong tree) stays
  pub order : IsNonDecreasingBy begin_of stays

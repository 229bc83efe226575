-- The order of a tree's nodes.
use Rattle.std.specs.Prelude.{ℕ, ◌<◌, ◌≤◌, List}
use Rattle.iso_plan.specs.Paths.{parent}
use Rattle.iso_plan.specs.Tree.{Row}

-- The descendants of a node follow it without a gap: of two nodes, where the later one's parent
-- comes before the earlier one, the earlier one's parent is that one too, or a later one.
abbrev pub IsPreorder : List Row → Type 0
IsPreorder tree = (m n : ℕ) → m < n → parent tree n < m → parent tree n ≤ parent tree m

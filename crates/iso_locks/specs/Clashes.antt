-- Nodes that no tray holds together.
use Rattle.std.specs.Prelude.{ℕ, List, Option, Some, None, Bool, false, ◌||◌, ◌&&◌, ◌==◌, not}
use Rattle.iso_plan.specs.Locks.{conflict, locking_node}
use Rattle.iso_plan.specs.Tree.{Row}

-- whether two locking nodes, where there are two, conflict
abbrev pub lockers_conflict : List Row → Option ℕ → Option ℕ → Bool
lockers_conflict tree None b = false
lockers_conflict tree (Some a) None = false
lockers_conflict tree (Some a) (Some b) = not (a == b) && conflict tree a b

-- whether two nodes clash: they conflict, or their locking nodes do, where these differ
abbrev pub clash : List Row → ℕ → ℕ → Bool
clash tree m n =
    conflict tree m n || lockers_conflict tree (locking_node tree m) (locking_node tree n)

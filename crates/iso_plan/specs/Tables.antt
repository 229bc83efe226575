-- Tables of the accesses with which nodes take keys, by key number, while they are gathered.
use Rattle.std.specs.Prelude.{ℕ, List, [], ◌∷◌, Option, Some, None, ◌||◌, cond, replicate}
use Rattle.iso_model.specs.declared.access.Access.{Access}
use Rattle.iso_model.specs.declared.access.Access.TheVariants.{Read, Write}
use Rattle.iso_plan.specs.Locks.{holds_isolated, is_locking}
use Rattle.iso_plan.specs.Paths.{is_top}
use Rattle.iso_plan.specs.Tree.{Row}

-- a table whose first key, if it has one, is taken so
abbrev pub with_first : Option Access → List (Option Access) → List (Option Access)
with_first a [] = []
with_first a (x ∷ xs) = a ∷ xs

-- how a node takes the global key, if it is a top-level class
abbrev pub own_global : List Row → ℕ → Option Access
own_global tree n = cond (is_top tree n) (Some (cond (holds_isolated tree n) Write Read)) None

-- the table of a node before anything is gathered: a node that takes no key has none
abbrev pub own_table : List Row → ℕ → ℕ → List (Option Access)
own_table tree count n =
    with_first (own_global tree n)
    (replicate (cond (is_top tree n || is_locking tree n) count 0) None)

-- The namesake of a node in another plan: the node that is found there by the same names, from the
-- top-level class down.
--
-- namesake: The node that is found in another plan by the same names, from the top-level class
-- down; of several children with one name the first (`namesake`).
use Rattle.std.specs.Prelude.{ℕ, List, [], ◌∷◌, Option, Some, None, bytes_eq, cond}
use Rattle.iso_plan.specs.Paths.{children, path, row_at}
use Rattle.iso_plan.specs.Tree.{Row}

-- the first of some nodes that has this name
abbrev pub named : List Row → List ℕ → List ℕ → Option ℕ
named tree name [] = None
named tree name (n ∷ ns) = cond (bytes_eq (row_at tree n).name name) (Some n) (named tree name ns)

-- the first child of a class that has this name, where there is such a class
abbrev pub child_named : List Row → List ℕ → Option ℕ → Option ℕ
child_named tree name None = None
child_named tree name (Some class) = named tree name (children tree class)

-- the node of one tree that is found by the names on a path of another, innermost first
abbrev pub namesake_on : (one other : List Row) → List ℕ → Option ℕ
namesake_on one other [] = Some 0
namesake_on one other (n ∷ ns) = child_named one (row_at other n).name (namesake_on one other ns)

-- the namesake in the first tree of a node of the second; that of the root is the root
abbrev pub namesake : (one other : List Row) → ℕ → Option ℕ
namesake one other n = namesake_on one other (path other n)

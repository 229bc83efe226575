-- Which failed class blocks a test: the nearest class around it that failed itself.
--
-- which class blocks a test: The nearest class around it that failed itself (`nearest_failure`,
-- `is_blocked_by`); how many tests a class blocks (`blocked_by`), as they are counted child by
-- child (`blocked_within`, `blocked_at`).
-- Also in: `BlockedInside`.
use Rattle.std.specs.Prelude.{ℕ, List, Option, Bool, ◌&&◌, length}
use Rattle.std.specs.List.{find}
use Rattle.iso_model.specs.declared.outcome.Outcome.{Outcome}
use Rattle.iso_plan.specs.Locks.{is_that}
use Rattle.iso_plan.specs.Paths.{parent, path}
use Rattle.iso_plan.specs.Tree.{Row}
use Rattle.iso_failures.specs.Counting.{how_many}
use Rattle.iso_failures.specs.Failures.{is_failure}
use Rattle.iso_failures.specs.Nodes.{is_test_with, was_blocked}

-- the nearest class around a node that failed itself: the first one on the way up
abbrev pub nearest_failure : List Row → (ℕ → Outcome) → ℕ → Option ℕ
nearest_failure tree outcome n = find (is_failure outcome) (path tree (parent tree n))

-- whether a class blocks a node: the node is a test that is blocked, and the class is the nearest
-- around it that failed itself
abbrev pub is_blocked_by : List Row → (ℕ → Outcome) → (class : ℕ) → ℕ → Bool
is_blocked_by tree outcome class n =
    is_test_with tree outcome was_blocked n && is_that (nearest_failure tree outcome n) class

-- how many tests a class blocks
abbrev pub blocked_by : List Row → (ℕ → Outcome) → (class : ℕ) → ℕ
blocked_by tree outcome class = how_many (is_blocked_by tree outcome class) (length tree)

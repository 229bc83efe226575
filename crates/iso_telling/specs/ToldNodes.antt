-- Which nodes a summary tells of.
--
-- node that is told of: It failed, or it is a test that was skipped, where these are asked for, in
-- the order in which they are written (`is_told`, `told_nodes`).
use Rattle.std.specs.Prelude.{ℕ, List, Bool, ◌&&◌, ◌||◌, length}
use Rattle.iso_failures.specs.Failures.{is_failure}
use Rattle.iso_failures.specs.Nodes.{is_test_with, was_skipped}
use Rattle.iso_model.specs.declared.outcome.Outcome.{Outcome}
use Rattle.iso_plan.specs.KeptNodes.{those_below}
use Rattle.iso_plan.specs.Tree.{Row}

-- whether a node is told of: it failed, or it is a test that was skipped, where these are told of,
-- too
abbrev pub is_told : List Row → (ℕ → Outcome) → (skipped : Bool) → ℕ → Bool
is_told tree outcome skipped n =
    is_failure outcome n || (skipped && is_test_with tree outcome was_skipped n)

-- the nodes that are told of, in the order in which they are written
abbrev pub told_nodes : List Row → (ℕ → Outcome) → (skipped : Bool) → List ℕ
told_nodes tree outcome skipped = those_below (is_told tree outcome skipped) (length tree)

-- The nodes that failed, and their paths as a text.
--
-- what failed: Each node but the root whose own verdict is a fail or a fault (`has_failed`,
-- `is_failure`), in the order in which they are written (`failures`); their paths, one a line
-- (`failed_text`).
-- Also in: `Nodes`.
use Rattle.std.specs.Prelude.{ℕ, List, ◌++◌, Bool, ◌&&◌, codes, length, not}
use Rattle.std.specs.List.{flat_map}
use Rattle.iso_model.specs.declared.outcome.Outcome.{Outcome}
use Rattle.iso_plan.specs.Paths.{is_root}
use Rattle.iso_plan.specs.PathTexts.{path_text}
use Rattle.iso_plan.specs.KeptNodes.{those_below}
use Rattle.iso_plan.specs.Tree.{Row}
use Rattle.iso_failures.specs.Nodes.{has_failed}

-- whether a node failed: it isn't the root, and its own verdict is a fail or a fault
abbrev pub is_failure : (ℕ → Outcome) → ℕ → Bool
is_failure outcome n = not (is_root n) && has_failed (outcome n).verdict

-- the nodes that failed, in the order in which they are written
abbrev pub failures : List Row → (ℕ → Outcome) → List ℕ
failures tree outcome = those_below (is_failure outcome) (length tree)

-- the line of a node: its path
abbrev pub path_line : List Row → ℕ → List ℕ
path_line tree n = path_text tree n ++ codes "\n"

-- the paths of the nodes that failed, one a line
abbrev pub failed_text : List Row → (ℕ → Outcome) → List ℕ
failed_text tree outcome = flat_map (path_line tree) (failures tree outcome)

-- What is told of a run: an error for each node that failed.
use Rattle.std.specs.Prelude.{ℕ, ◌-◌, List, [], flat_map, length, slice_index_or}
use Rattle.std.specs.List.{range_with_len}
use Rattle.iso_junit.specs.Runs.{PlacedView}
use Rattle.iso_model.specs.declared.outcome.Outcome.{Outcome}
use Rattle.iso_model.specs.declared.outcome.Verdict.{Verdict}
use Rattle.iso_model.specs.declared.outcome.Verdict.TheVariants.{Pass, Fail, Fault, Skipped, Blocked}
use Rattle.iso_plan.specs.PathTexts.{path_text}
use Rattle.iso_plan.specs.Tree.{Row}
use Rattle.iso_github.specs.Commands.{error_line}

-- what is told of a node with this path: the message of a fail or a fault, with the line of what
-- ended it
abbrev pub error_of : (path : List ℕ) → PlacedView → Verdict → List ℕ
error_of path at Pass = []
error_of path at (Fail note) = error_line at.file at.ended path note.message
error_of path at (Fault kind note) = error_line at.file at.ended path note.message
error_of path at (Skipped note) = []
error_of path at (Blocked note) = []

-- where the node with a number stands
abbrev pub place_in : List PlacedView → ℕ → PlacedView
place_in places n = slice_index_or places n (record { file = []; line = 0; ended = 0 })

-- what is told of the node with a number
abbrev pub node_error : List Row → (ℕ → Outcome) → List PlacedView → ℕ → List ℕ
node_error tree outcome places n =
    error_of (path_text tree n) (place_in places n) (outcome n).verdict

-- what is told of the nodes from a number on
abbrev pub errors_from : List Row → (ℕ → Outcome) → List PlacedView → ℕ → List ℕ
errors_from tree outcome places n =
    flat_map (node_error tree outcome places) (range_with_len n (length tree - n))

-- what is told of a run: of each node but the root, in the order in which they are written
abbrev pub errors_text : List Row → (ℕ → Outcome) → List PlacedView → List ℕ
errors_text tree outcome places = errors_from tree outcome places 1

-- Where the nodes of a tree stand, for texts that tell of each by its number.
use Rattle.std.specs.Prelude.{ℕ, zero, suc, List, [], codes, length, map, slice_index_or}
use Rattle.std.specs.List.{range_with_len}
use Rattle.iso_junit.specs.Runs.{PlacedView}
use Rattle.iso_model.specs.declared.outcome.Outcome.{Outcome}
use Rattle.iso_places.specs.declared.site.Site.{Site}
use Rattle.iso_plan.specs.Tree.{Row}
use Rattle.iso_telling.specs.ToldLines.{line_told, name_line}

-- no place, as the root has it
abbrev pub nowhere : PlacedView
nowhere = record { file = []; line = 0; ended = 0 }

-- where a node other than the root stands: the name of its script, or `stdin` where none has a
-- name, the line of its own name, and the line that is told of it
abbrev pub place_told : (names : List (List ℕ)) → List Row → List Site → ℕ
    → (ℕ → Outcome) → PlacedView
place_told names tree sites n outcome =
    record {
      file = slice_index_or names (name_line sites n).script (codes "stdin");
      line = (name_line sites n).line;
      ended = (line_told tree sites outcome n).line;
    }

-- where a node stands, by its number
abbrev pub node_place : (names : List (List ℕ)) → List Row → List Site → (ℕ → Outcome)
    → ℕ → PlacedView
node_place names tree sites outcome zero = nowhere
node_place names tree sites outcome (suc n) = place_told names tree sites (suc n) outcome

-- where each node stands
abbrev pub node_places : (names : List (List ℕ)) → List Row → List Site → (ℕ → Outcome)
    → List PlacedView
node_places names tree sites outcome =
    map (node_place names tree sites outcome) (range_with_len 0 (length tree))

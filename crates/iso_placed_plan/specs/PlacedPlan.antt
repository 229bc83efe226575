-- The plan as it is printed, with the place of each node's name as a last field of its line.
--
-- plan with places: A place is the name of the script as a printed plan has it, or `stdin` where it
-- has none, and line and column of the node's name (`place_text`, `script_name`). Each line of the
-- plan has it as its last field (`placed_line`, `placed_plan_text`), and so have those of tests
-- alone (`placed_tests_text`).
use Rattle.std.specs.Prelude.{ℕ, zero, suc, ◌-◌, List, [], ◌++◌, Option, None, Some, cond, codes, length, slice_index_or}
use Rattle.std.specs.Fmt.{decimal}
use Rattle.iso_places.specs.Sites.{site_at}
use Rattle.iso_places.specs.declared.site.Site.{Site}
use Rattle.iso_plan.specs.Paths.{is_test, row_at}
use Rattle.iso_plan.specs.Tree.{Row}
use Rattle.iso_settings.specs.declared.settings.Settings.{Settings}
use Rattle.iso_summary.specs.Names.{planned_name}
use Rattle.iso_tap.specs.PlanText.{node_fields}

-- the name of a script by its number; one that has none was read from standard input
abbrev pub script_name : (names : List (List ℕ)) → ℕ → List ℕ
script_name names script = slice_index_or names script (codes "stdin")

-- a place, as FILE:LINE:COLUMN
abbrev pub place_text : (names : List (List ℕ)) → Site → List ℕ
place_text names s =
    planned_name (script_name names s.script) ++ codes ":" ++ decimal s.place.name.line ++ codes ":"
    ++ decimal s.place.name.column

-- a place as a further field of a line, where there is one
abbrev pub place_field : (names : List (List ℕ)) → Option Site → List ℕ
place_field names None = []
place_field names (Some s) = codes " " ++ place_text names s

-- the line of a node: its fields, and its place behind them
abbrev pub placed_line : List Row → Settings → List Site → (names : List (List ℕ)) → ℕ → List ℕ
placed_line tree s sites names n =
    node_fields tree s n ++ place_field names (site_at sites n) ++ codes "\n"

-- the line of a node that is a test, and nothing for a class
abbrev pub placed_test_line : List Row → Settings → List Site → (names : List (List ℕ)) → ℕ → List ℕ
placed_test_line tree s sites names n =
    cond (is_test (row_at tree n).kind) (placed_line tree s sites names n) []

-- the lines of `count` nodes, of which the first has number n
abbrev pub each_node : (line : ℕ → List ℕ) → (count n : ℕ) → List ℕ
each_node line zero n = []
each_node line (suc count) n = line n ++ each_node line count (suc n)

-- the tests of a plan: the lines that they have in it, and no other
abbrev pub placed_tests_text : List Row → Settings → List Site → (names : List (List ℕ)) → List ℕ
placed_tests_text tree s sites names =
    each_node (placed_test_line tree s sites names) (length tree - 1) 1

-- the plan: the number of workers, then all nodes but the root
abbrev pub placed_plan_text : List Row → Settings → (workers : ℕ) → List Site
    → (names : List (List ℕ)) → List ℕ
placed_plan_text tree s workers sites names =
    codes "workers " ++ decimal workers ++ codes "\n"
    ++ each_node (placed_line tree s sites names) (length tree - 1) 1

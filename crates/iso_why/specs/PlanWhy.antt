-- A plan with reasons as it is printed.
use Rattle.std.specs.Prelude.{ℕ, ◌-◌, List, [], ◌++◌, cond, codes, length}
use Rattle.std.specs.Fmt.{decimal}
use Rattle.std.specs.List.{flat_map}
use Rattle.iso_placed_plan.specs.PlacedPlan.{each_node, placed_line}
use Rattle.iso_places.specs.declared.site.Site.{Site}
use Rattle.iso_plan.specs.Locks.{locks}
use Rattle.iso_plan.specs.Paths.{is_test, row_at}
use Rattle.iso_plan.specs.Tree.{Row}
use Rattle.iso_settings.specs.declared.settings.Settings.{Settings}
use Rattle.iso_why.specs.WhyText.{lock_line, mode_line}

-- the lines of a node: its own, with its place where it has one, its mode's and those of its locks
abbrev pub node_why : List Row → Settings → List Site → (names : List (List ℕ)) → ℕ → List ℕ
node_why tree s sites names n = placed_line tree s sites names n ++ mode_line tree s n
    ++ flat_map (lock_line tree n) (locks tree n)

-- the lines of a node that is a test, and nothing for a class
abbrev pub test_why : List Row → Settings → List Site → (names : List (List ℕ)) → ℕ → List ℕ
test_why tree s sites names n =
    cond (is_test (row_at tree n).kind) (node_why tree s sites names n) []

-- the tests of a plan, with reasons
abbrev pub tests_why : List Row → Settings → List Site → (names : List (List ℕ)) → List ℕ
tests_why tree s sites names = each_node (test_why tree s sites names) (length tree - 1) 1

-- the plan with reasons: the number of workers, then all nodes but the root
abbrev pub plan_why : List Row → Settings → (workers : ℕ) → List Site
    → (names : List (List ℕ)) → List ℕ
plan_why tree s workers sites names =
    codes "workers " ++ decimal workers ++ codes "\n"
    ++ each_node (node_why tree s sites names) (length tree - 1) 1

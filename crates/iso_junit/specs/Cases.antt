-- Which nodes have a testcase, and in which testsuite.
--
-- testcase and testsuite: The testcases of a class: one for each test that stands directly in it,
-- and one of its own where its own blocks failed (`cases`, `all_cases`); which classes have a
-- testsuite (`suites`). Their counts, a blocked test as an error, and the sum of their times
-- (`tally`, `time_of`), testcase by testcase (`with_case`).
-- Also in: `Tallies`, `Times`, `TallySteps`.
use Rattle.std.specs.Prelude.{ℕ, List, [], ◌∷◌, ◌++◌, Bool, ◌&&◌, ◌||◌, ◌==◌, filter, length, not}
use Rattle.iso_failures.specs.Nodes.{has_failed}
use Rattle.iso_plan.specs.Paths.{children, is_root, is_test, row_at}
use Rattle.iso_plan.specs.KeptNodes.{those_below}
use Rattle.iso_junit.specs.Runs.{RunView}

-- whether a node is a test, and whether its own blocks failed
abbrev pub is_a_test : RunView → ℕ → Bool
is_a_test r n = is_test (row_at r.tree n).kind

abbrev pub failed_itself : RunView → ℕ → Bool
failed_itself r n = has_failed (r.outcome n).verdict

-- the testcases of a class: one of its own, where its own blocks failed, and one for each test that
-- stands directly in it
abbrev pub cases : RunView → ℕ → List ℕ
cases r class =
    filter (failed_itself r) (class ∷ []) ++ filter (is_a_test r) (children r.tree class)

-- whether a class has a testsuite: it has a testcase, or its own blocks printed
abbrev pub is_suite : RunView → ℕ → Bool
is_suite r n = not (is_root n || is_a_test r n)
    && not (length (cases r n) == 0 && length (r.outcome n).output == 0)

-- the classes that have one, in the order in which they are written
abbrev pub suites : RunView → List ℕ
suites r = those_below (is_suite r) (length r.tree)

-- all testcases: of the tests, and of the classes whose own blocks failed
abbrev pub is_case : RunView → ℕ → Bool
is_case r n = not (is_root n) && (is_a_test r n || failed_itself r n)

abbrev pub all_cases : RunView → List ℕ
all_cases r = those_below (is_case r) (length r.tree)

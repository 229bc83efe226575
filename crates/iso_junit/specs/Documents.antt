-- The document: a testsuite for each class that has one, and in it its testcases (JUnit XML as
-- Surefire writes and Jenkins reads it).
--
-- JUnit XML: Of a testcase its name, class, place and time, what it came to (`case_text`,
-- `result_text`, `problem`) and its output (`output_text`); a testsuite (`suite_text`), and the
-- document (`junit_text`), made of parts (`joined`, `part_text`); what contracts see of a run
-- (`RunView`, `run_of`).
-- Also in: `Elements`, `Parts`, `Runs`, `Texts`.
-- Standard: JUnit XML as Maven Surefire writes it and Jenkins reads it.
use Rattle.std.specs.Prelude.{ℕ, List, [], ◌∷◌, ◌++◌, Option, Bool, ◌&&◌, cond, codes, flat_map}
use Rattle.std.specs.Fmt.{decimal}
use Rattle.iso_failures.specs.Nodes.{has_passed}
use Rattle.iso_plan.specs.Paths.{row_at}
use Rattle.iso_plan.specs.PathTexts.{path_text}
use Rattle.iso_junit.specs.Cases.{all_cases, cases, is_a_test, suites}
use Rattle.iso_junit.specs.Elements.{is_silent, output_text, result_text}
use Rattle.iso_junit.specs.Escapes.{escaped}
use Rattle.iso_junit.specs.Files.{file_name}
use Rattle.iso_junit.specs.Runs.{PlacedView, RunView, place, time}
use Rattle.iso_junit.specs.Tallies.{tally}
use Rattle.iso_junit.specs.Texts.{joined}
use Rattle.iso_junit.specs.Times.{time_attribute}
use Rattle.iso_junit.specs.declared.tally.Tally.{Tally}

-- the attributes of counts, without the time and with it
abbrev pub numbers_text : Tally → List ℕ
numbers_text t =
    joined
    (codes " tests=\""
    ∷ decimal t.tests
    ∷ codes "\" failures=\""
    ∷ decimal t.failures
    ∷ codes "\" errors=\""
    ∷ decimal t.errors
    ∷ codes "\" skipped=\""
    ∷ decimal t.skipped
    ∷ codes "\""
    ∷ [])

abbrev pub counts_text : Tally → List ℕ
counts_text t = numbers_text t ++ time_attribute t.time

-- the name of a testcase: that of its test, and for a class's own a word that no test has as its
-- name
abbrev pub case_name : RunView → ℕ → List ℕ
case_name r n = cond (is_a_test r n) (row_at r.tree n).name (codes "class")

-- the beginning of a testcase with this name, in the class with this path
abbrev pub case_head : (name path : List ℕ) → PlacedView → (time : Option ℕ) → List ℕ
case_head name path at time =
    joined
    (codes "    <testcase name=\""
    ∷ escaped name
    ∷ codes "\" classname=\""
    ∷ escaped path
    ∷ codes "\" file=\""
    ∷ escaped (file_name at.file)
    ∷ codes "\" line=\""
    ∷ decimal at.line
    ∷ codes "\""
    ∷ time_attribute time
    ∷ [])

-- what a test printed; what a class printed stands in its testsuite
abbrev pub case_output : RunView → ℕ → List ℕ
case_output r n =
    cond (is_a_test r n) (output_text (codes "      ") (row_at r.tree n) (r.outcome n).output) []

-- whether nothing stands in a testcase: a test passed, has no display text and printed nothing
abbrev pub is_bare : RunView → ℕ → Bool
is_bare r n = has_passed (r.outcome n).verdict && is_silent (row_at r.tree n) (r.outcome n).output

-- the rest of a testcase
abbrev pub case_rest : RunView → ℕ → List ℕ
case_rest r n =
    cond (is_bare r n) (codes "/>\n")
    (codes ">\n" ++ result_text (place r n) (r.outcome n).verdict ++ case_output r n
    ++ codes "    </testcase>\n")

-- a testcase of a class
abbrev pub case_text : RunView → (class n : ℕ) → List ℕ
case_text r class n = case_head (case_name r n) (path_text r.tree class) (place r n) (time r n)
    ++ case_rest r n

-- the beginning of the testsuite of the class with this path
abbrev pub suite_head : (path : List ℕ) → Tally → List ℕ
suite_head path t = joined (codes "  <testsuite name=\"" ∷ escaped path ∷ codes "\"" ∷ counts_text t
    ∷ codes ">\n" ∷ [])

-- the testsuite of a class: its testcases, and what its own blocks printed
abbrev pub suite_text : RunView → ℕ → List ℕ
suite_text r class =
    suite_head (path_text r.tree class) (tally r (cases r class))
    ++ flat_map (case_text r class) (cases r class)
    ++ output_text (codes "    ") (row_at r.tree class) (r.outcome class).output
    ++ codes "  </testsuite>\n"

-- the beginning of the document
abbrev pub document_head : Tally → List ℕ
document_head t =
    joined (codes "<?xml version=\"1.0\" encoding=\"UTF-8\"?>\n<testsuites name=\"jtap\""
    ∷ counts_text t ∷ codes ">\n" ∷ [])

-- the document: its testsuites, and the counts of all testcases
abbrev pub junit_text : RunView → List ℕ
junit_text r = document_head (tally r (all_cases r)) ++ flat_map (suite_text r) (suites r)
    ++ codes "</testsuites>\n"

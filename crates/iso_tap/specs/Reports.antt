-- The report of a suite's outcomes (TAP version 14, subtests): the version, and then the level of
-- the root.
--
-- report: The text of outcomes by node: version, plans, points, subtests, diagnostics (`report`,
-- `reported`, `point_line`, `block_lines`); which points are ok (`is_ok`), and whether all are
-- (`all_ok`).
-- Also in: `ReportBlocks`, `ReportLines`.
-- Standard: Test Anything Protocol, version 14: version, plan, test points, directives, subtests,
-- YAML diagnostics; YAML 1.2, double-quoted style.
use Rattle.std.specs.Prelude.{ℕ, zero, suc, ◌+◌, List, [], ◌∷◌, ◌++◌, Bool, cond, length}
use Rattle.std.specs.List.{filter, list_all, range_with_len}
use Rattle.iso_model.specs.declared.outcome.Outcome.{Outcome}
use Rattle.iso_plan.specs.Paths.{children, is_test, is_under, row_at}
use Rattle.iso_plan.specs.Tree.{Row}
use Rattle.iso_tap.specs.ReportBlocks.{point}
use Rattle.iso_tap.specs.ReportLines.{is_ok_verdict, plan_line, subtest_line, version_line}

-- the nodes at or under a node, in order; none for the root
abbrev pub within : List Row → ℕ → List ℕ
within tree n = filter (is_under tree n) (range_with_len 0 (length tree))

-- whether the point of a node is ok: no verdict at or under the node is a fail, a fault or blocked
abbrev pub is_ok : List Row → (ℕ → Outcome) → ℕ → Bool
is_ok tree outcome n = list_all (λ m. is_ok_verdict (outcome m).verdict) (within tree n)

-- whether all points of the report are ok
abbrev pub all_ok : List Row → (ℕ → Outcome) → Bool
all_ok tree outcome = list_all (is_ok tree outcome) (children tree 0)

-- the texts of nodes in order, numbered from this number on
abbrev pub numbered : (text : ℕ → ℕ → List ℕ) (number : ℕ) → List ℕ → List ℕ
numbered text number [] = []
numbered text number (n ∷ ns) = text number n ++ numbered text (number + 1) ns

-- a level: its plan, and the text of each of its nodes, numbered from 1
abbrev pub level : (indent : ℕ) (text : ℕ → ℕ → List ℕ) → List ℕ → List ℕ
level indent text ns = plan_line indent (length ns) ++ numbered text 1 ns

-- a class's level, four spaces further in, under its comment; a test has none
abbrev pub subtest : (indent : ℕ) → Row → (text : ℕ → ℕ → List ℕ) → List ℕ → List ℕ
subtest indent row text ns =
    cond (is_test row.kind) [] (subtest_line indent row.title ++ level (indent + 4) text ns)

-- What is reported of a node: its subtest, in which its children are reported, and then its point.
-- The definition counts how deep it may still go, and nodes are nested no deeper than
-- there are nodes; the law `reports_go_down_the_tree` says it without.
abbrev pub reported_within : (depth : ℕ) → List Row → (ℕ → Outcome) → (indent number n : ℕ) → List ℕ
reported_within zero tree outcome indent number n = []
reported_within (suc depth) tree outcome indent number n =
    subtest indent (row_at tree n) (reported_within depth tree outcome (indent + 4))
    (children tree n)
    ++ point indent number (is_ok tree outcome n) (row_at tree n).title (outcome n)

abbrev pub reported : List Row → (ℕ → Outcome) → (indent number n : ℕ) → List ℕ
reported tree outcome = reported_within (length tree) tree outcome

-- the report
abbrev pub report : List Row → (ℕ → Outcome) → List ℕ
report tree outcome = version_line ++ level 0 (reported tree outcome 0) (children tree 0)

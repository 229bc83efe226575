-- What is measured of a run: its tests, how long its bodies took together, and when the last one
-- ended.
use Rattle.std.specs.Prelude.{ℕ, zero, suc, ◌+◌, ◌-◌, List, Option, Some, None, cond, length, max, min}
use Rattle.iso_lifecycle.specs.declared.kind.BodyKind.TheVariants.{BeforeAll, AfterAll}
use Rattle.iso_plan.specs.Paths.{is_test, row_at}
use Rattle.iso_plan.specs.Tree.{Row}
use Rattle.iso_stats.specs.Shares.{most}
use Rattle.iso_times.specs.declared.times.BodyTime.{BodyTime}
use Rattle.iso_waits.specs.Stays.{body_time}

-- times added up, at most the largest number that is told
abbrev pub plus : ℕ → ℕ → ℕ
plus a b = min (a + b) most

-- how long a body took, and when it ended; none that has no time
abbrev pub took : Option BodyTime → ℕ
took None = 0
took (Some b) = b.end - b.begin

abbrev pub end_of : Option BodyTime → ℕ
end_of None = 0
end_of (Some b) = b.end

-- how long the bodies of a node took: a test's, or a class's own two
abbrev pub own : List (Option BodyTime) → ℕ → ℕ
own bodies n = plus (took (body_time bodies n BeforeAll)) (took (body_time bodies n AfterAll))

-- when the last of them ended
abbrev pub last_end : List (Option BodyTime) → ℕ → ℕ
last_end bodies n =
    max (end_of (body_time bodies n BeforeAll)) (end_of (body_time bodies n AfterAll))

-- how long the bodies of the nodes with a number below n took
abbrev pub work_below : List (Option BodyTime) → ℕ → ℕ
work_below bodies zero = 0
work_below bodies (suc n) = plus (work_below bodies n) (own bodies n)

-- when the last of them ended
abbrev pub span_below : List (Option BodyTime) → ℕ → ℕ
span_below bodies zero = 0
span_below bodies (suc n) = max (span_below bodies n) (last_end bodies n)

-- how many of the nodes with a number below n are tests
abbrev pub tests_below : List Row → ℕ → ℕ
tests_below tree zero = 0
tests_below tree (suc n) = tests_below tree n + cond (is_test (row_at tree n).kind) 1 0

-- of all nodes: how long their bodies took together, when the last one ended, and how many are
-- tests
abbrev pub work : List Row → List (Option BodyTime) → ℕ
work tree bodies = work_below bodies (length tree)

abbrev pub span : List Row → List (Option BodyTime) → ℕ
span tree bodies = span_below bodies (length tree)

abbrev pub test_count : List Row → ℕ
test_count tree = tests_below tree (length tree)

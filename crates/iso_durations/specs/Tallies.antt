-- How much was measured.
use Rattle.std.specs.Prelude.{ℕ, ◌+◌, List, Option, Bool, true, false, filter, length, min, not, sum_by}
use Rattle.iso_plan.specs.Paths.{is_test, row_at}
use Rattle.iso_plan.specs.Tree.{Row}
use Rattle.iso_durations.specs.Times.{micros}
use Rattle.iso_durations.specs.declared.tally.Tally.{Tally}

-- the greatest number of microseconds that is told
abbrev pub greatest : ℕ
greatest = 18446744073709551615

-- whether a node is a test
abbrev pub is_a_test : List Row → ℕ → Bool
is_a_test tree n = is_test (row_at tree n).kind

-- how many of some nodes are tests and how many are classes, and how long the bodies of all of them
-- took
abbrev pub tally : List Row → (times : List (Option ℕ)) → List ℕ → Tally
tally tree times nodes =
    record {
      tests = length (filter (is_a_test tree) nodes);
      classes = length (filter (λ n. not (is_a_test tree n)) nodes);
      micros = min (sum_by (micros times) nodes) greatest;
    }

-- the same with one more, a test or a class, whose bodies took so long
abbrev pub with_node : (is_test : Bool) → (micros : ℕ) → Tally → Tally
with_node true micros t =
    record { tests = t.tests + 1; classes = t.classes; micros = min (t.micros + micros) greatest }
with_node false micros t =
    record { tests = t.tests; classes = t.classes + 1; micros = min (t.micros + micros) greatest }

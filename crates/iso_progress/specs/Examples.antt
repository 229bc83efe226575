-- Suites of the worked examples, in the language that counts: one that keeps all laws, and three
-- that each keep all but one.
use Rattle.std.specs.Prelude.{◌≡◌, ℕ, zero, suc, Bool, true, false, ◌&&◌, ◌||◌, List, [], ◌∷◌, ◌++◌, length, Option, Some, None}
use Rattle.iso_isolation.specs.Suites.{Suite, SuiteLaws}
use Rattle.iso_isolation.specs.States.{State, first}
use Rattle.iso_isolation.specs.Events.{Event, Enter, Step, Leave, Shut, where_some, after}
use Rattle.iso_isolation.specs.Runs.{is_run, after_all_of, is_complete}
use Rattle.iso_isolation.specs.Examples.{Head, Counter, counting, Row, node_in, no_node, class_head, test_head, at, is_key, equal_keys, numbers}
use Rattle.iso_isolation.specs.ExampleRuns.{CrowdStatus, crowd, crowd_at}
use Rattle.iso_progress.specs.Candidates.{candidate}
use Rattle.iso_progress.specs.NeverStuck.{IsStuck}

-- Key 0 is the global key. 1: a class without marks. In it 2, a class that takes key 1 for
-- READ_WRITE, with a test 3, and 4, a test that takes it for READ. 5: an isolated class with a test
-- 6. 7: a class whose `before_all` fails, with a test 8.
abbrev pub mall_rows : List Row
mall_rows =
    no_node
    ∷ node_in 0 (class_head 0 false true) false (Some 0) false
    ∷ node_in 1 (class_head 1 true true) false (Some 1) true
    ∷ node_in 2 (test_head 1 false true 1) true None false
    ∷ node_in 1 (test_head 1 true false 1) false (Some 1) false
    ∷ node_in 0 (class_head 0 false true) false (Some 0) true
    ∷ node_in 5 (test_head 0 false false 1) true None false
    ∷ node_in 0 (class_head 0 false false) false (Some 0) false
    ∷ node_in 7 (test_head 0 false false 1) false None false
    ∷ []

-- two classes that each take a key for READ_WRITE, and in each a test that takes the other's
abbrev pub crossed_rows : List Row
crossed_rows =
    no_node
    ∷ node_in 0 (class_head 0 false true) false (Some 1) true
    ∷ node_in 0 (class_head 0 false true) false (Some 2) true
    ∷ node_in 1 (test_head 0 false false 1) true (Some 2) true
    ∷ node_in 2 (test_head 0 false false 1) true (Some 1) true
    ∷ []

-- a test in a test
abbrev pub nested_rows : List Row
nested_rows =
    no_node ∷ node_in 0 (test_head 0 false false 1) false None false
    ∷ node_in 1 (test_head 0 false false 1) false None false ∷ []

-- a root that takes the key of a test
abbrev pub rooted_rows : List Row
rooted_rows = node_in 0 (class_head 0 false true) true (Some 1) true
    ∷ node_in 0 (test_head 0 false false 1) true (Some 1) true ∷ []

abbrev pub row_of : List Row → ℕ → Row
row_of rows n = at no_node rows n

-- a node, its parent and so on, at most `most` of them
abbrev pub up_in : List Row → ℕ → ℕ → List ℕ
up_in rows most zero = []
up_in rows zero (suc n) = []
up_in rows (suc most) (suc n) = suc n ∷ up_in rows most (row_of rows (suc n)).parent

abbrev pub suite_in : List Row → Suite Head ℕ ℕ
suite_in rows = record {
  nodes = length rows;
  parent = λ n. (row_of rows n).parent;
  path = λ n. up_in rows 3 n;
  head = λ n. (row_of rows n).head;
  is_same_thread = λ n. (row_of rows n).is_same_thread;
  takes = λ n k. is_key (row_of rows n).lock k;
  takes_write = λ n k. (row_of rows n).is_writer && is_key (row_of rows n).lock k;
  conflict = λ m n.
      equal_keys (row_of rows m).lock (row_of rows n).lock
      && ((row_of rows m).is_writer || (row_of rows n).is_writer);
  start = numbers;
}

abbrev pub mall : Suite Head ℕ ℕ
mall = suite_in mall_rows

abbrev pub Counted : Type 0
Counted = State ℕ ℕ Counter Counter (Option (List (Option ℕ)))

-- the state of a suite after these events, and the candidate there, on two workers
abbrev pub after_in : List Row → List Event → Counted
after_in rows es = after_all_of counting (suite_in rows) (first counting (suite_in rows)) es

abbrev pub candidate_in : List Row → List Event → Option Event
candidate_in rows es = candidate counting (suite_in rows) 2 (after_in rows es)

-- whether these events are a run, and whether it is complete
abbrev pub is_run_in : List Row → List Event → Bool
is_run_in rows es = is_run counting (suite_in rows) 2 (first counting (suite_in rows)) es

abbrev pub is_complete_in : List Row → List Event → Bool
is_complete_in rows es = is_complete (suite_in rows) (after_in rows es)

-- a run of a suite that keeps `SuiteLaws` deadlocks before its end: no event is accepted any more
pub record ComesToAStand (rows : List Row) (es : List Event) : Type 0 where
  pub suite : SuiteLaws counting (suite_in rows)
  pub run : is_run_in rows es ≡ true
  pub stuck : IsStuck counting (suite_in rows) 2 (after_in rows es)
  pub unfinished : is_complete_in rows es ≡ false

-- the candidate after these events of the mall; and all that follow one another from a state, at
-- most this number of them
abbrev pub candidate_after : List Event → Option Event
candidate_after es = candidate_in mall_rows es

abbrev pub by_candidates : ℕ → Counted → List Event
by_candidates zero s = []
by_candidates (suc most) s = where_some (candidate counting mall 2 s) []
    (λ e. e ∷ by_candidates most (after counting mall s e))

-- a body of one turn in a node, from its Enter to its Leave, and in the closing of a class
abbrev pub whole_body : Event → ℕ → List Event
whole_body e w = e ∷ Step w ∷ Leave w ∷ []

-- each node of the mall in turn, by worker 0
abbrev pub one_by_one : List Event
one_by_one =
    whole_body (Enter 0 1) 0 ++ whole_body (Enter 0 2) 0 ++ whole_body (Enter 0 3) 0
    ++ whole_body (Shut 0 2) 0
    ++ whole_body (Enter 0 4) 0 ++ whole_body (Shut 0 1) 0 ++ whole_body (Enter 0 5) 0
    ++ whole_body (Enter 0 6) 0
    ++ whole_body (Shut 0 5) 0 ++ whole_body (Enter 0 7) 0 ++ whole_body (Shut 0 7) 0

-- the isolated class is opened by worker 1; so are class 1 and in it class 2; so is the class whose
-- `before_all` fails
abbrev pub isolated_opened : List Event
isolated_opened = whole_body (Enter 1 5) 1

abbrev pub writer_opened : List Event
writer_opened = whole_body (Enter 0 1) 0 ++ whole_body (Enter 1 2) 1

abbrev pub failed : List Event
failed = whole_body (Enter 1 7) 1

-- the two classes that cross are opened; and the test around a test is done
abbrev pub both_opened : List Event
both_opened = whole_body (Enter 0 1) 0 ++ whole_body (Enter 1 2) 1

abbrev pub outer_done : List Event
outer_done = whole_body (Enter 0 1) 0

-- the candidate of a state of the crowd that worker 1 owns, where these nodes are SAME_THREAD
abbrev pub candidate_at : (ℕ → Bool) → List CrowdStatus → Bool → Option Event
candidate_at same statuses stopped =
    candidate counting (crowd same false) 2 (crowd_at statuses 1 stopped)

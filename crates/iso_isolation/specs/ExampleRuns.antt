-- Runs and states of the worked examples.
use Rattle.std.specs.Prelude.{ℕ, Bool, true, false, cond, eqb, leb, ◌&&◌, ◌||◌, List, [], ◌∷◌, ◌++◌, Option, Some, None}
use Rattle.iso_isolation.specs.Suites.{Suite, chain}
use Rattle.iso_isolation.specs.Alone.{run_alone}
use Rattle.iso_isolation.specs.States as S
use Rattle.iso_isolation.specs.States.{Status, State, first}
use Rattle.iso_isolation.specs.Events.{Event, Enter, Step, Leave, Shut}
use Rattle.iso_isolation.specs.Refusals.{Refused, refusal}
use Rattle.iso_isolation.specs.Histories.{is_being_written, last_opened, standing_value, state_of}
use Rattle.iso_isolation.specs.Runs.{is_run, after_all_of, result_of, is_complete}
use Rattle.iso_isolation.specs.Examples.{Head, Counter, counter, counting, at, test_head, class_head, numbers, shop}

-- what a node of the shop comes to by itself
abbrev pub by_itself : ℕ → Option (List (Option ℕ))
by_itself n = run_alone counting (chain shop n) numbers

-- the state of the shop after these events; and what a node came to, if it is finished
abbrev pub begun_shop : State ℕ ℕ Counter Counter (Option (List (Option ℕ)))
begun_shop = first counting shop

abbrev pub shop_after : List Event → State ℕ ℕ Counter Counter (Option (List (Option ℕ)))
shop_after es = after_all_of counting shop begun_shop es

abbrev pub came_to : List Event → ℕ → Option (Option (List (Option ℕ)))
came_to es n = result_of (shop_after es) n

abbrev pub value_after : List Event → ℕ → Option ℕ
value_after es k = (shop_after es).nodes.flat k

abbrev pub node_of_worker : List Event → ℕ → Option ℕ
node_of_worker es w = (shop_after es).busy w

-- whether these are accepted on three workers; and why one more event is refused then, if it is
abbrev pub is_run_of_shop : List Event → Bool
is_run_of_shop es = is_run counting shop 3 begun_shop es

abbrev pub refused_after : List Event → Event → Option Refused
refused_after es e = refusal counting shop 3 (shop_after es) e

-- the classes 1 and 4 are opened by two workers side by side
abbrev pub opened_both : List Event
opened_both = Enter 0 1 ∷ Enter 1 4 ∷ Step 1 ∷ Step 0 ∷ Leave 1 ∷ Leave 0 ∷ []

-- test 2 and test 5, which change different keys, one step of the one after one of the other
abbrev pub side_by_side : List Event
side_by_side = opened_both ++ Enter 0 2 ∷ Enter 1 5 ∷ Step 0 ∷ Step 1 ∷ Step 1 ∷ Step 0 ∷ []

abbrev pub both_left : List Event
both_left = side_by_side ++ Leave 0 ∷ Leave 1 ∷ []

-- two readers of one key side by side
abbrev pub readers : List Event
readers = both_left ++ Enter 2 6 ∷ Enter 1 7 ∷ Step 1 ∷ Step 2 ∷ Leave 2 ∷ Leave 1 ∷ []

-- class 1 to its end
abbrev pub closed_first : List Event
closed_first = readers ++ Enter 0 3 ∷ Step 0 ∷ Leave 0 ∷ Shut 0 1 ∷ Step 0 ∷ []

-- class 8, whose `before_all` fails, to its end
abbrev pub barred : List Event
barred = Enter 2 8 ∷ Step 2 ∷ Leave 2 ∷ []

abbrev pub barred_to_its_end : List Event
barred_to_its_end = barred ++ Shut 2 8 ∷ Step 2 ∷ Leave 2 ∷ []

-- all nodes to their end: class 8 and its descendants come last
abbrev pub all_but_8 : List Event
all_but_8 = closed_first ++ Leave 0 ∷ Shut 1 4 ∷ Step 1 ∷ Leave 1 ∷ []

abbrev pub whole : List Event
whole = all_but_8 ++ barred_to_its_end

abbrev pub is_whole : List Event → Bool
is_whole es = is_complete shop (shop_after es)

-- a history, and the same in full
abbrev pub history : List Event
history = Enter 0 1 ∷ Enter 1 4 ∷ Leave 1 ∷ Leave 0 ∷ Enter 0 2 ∷ Enter 1 5 ∷ Leave 1 ∷ Leave 0 ∷ []

abbrev pub in_full : List Event
in_full = Enter 0 1 ∷ Enter 1 4 ∷ Step 1 ∷ Leave 1 ∷ Step 0 ∷ Leave 0 ∷ Enter 0 2 ∷ Enter 1 5
    ∷ Step 1 ∷ Step 1 ∷ Leave 1 ∷ Step 0 ∷ Step 0 ∷ Leave 0 ∷ []

-- class 1 from its Enter to its last Leave as a history, and the same in full
abbrev pub closed_history : List Event
closed_history = Enter 0 1 ∷ Leave 0 ∷ Enter 0 2 ∷ Leave 0 ∷ Enter 0 3 ∷ Leave 0 ∷ Shut 0 1
    ∷ Leave 0 ∷ []

abbrev pub closed_in_full : List Event
closed_in_full = Enter 0 1 ∷ Step 0 ∷ Leave 0 ∷ Enter 0 2 ∷ Step 0 ∷ Step 0 ∷ Leave 0 ∷ Enter 0 3
    ∷ Step 0 ∷ Leave 0 ∷ Shut 0 1 ∷ Step 0 ∷ Leave 0 ∷ []

-- another run with the same Enters and Leaves: the steps stand elsewhere
abbrev pub late_steps : List Event
late_steps = Enter 0 1 ∷ Enter 1 4 ∷ Step 0 ∷ Step 1 ∷ Leave 1 ∷ Leave 0 ∷ Enter 0 2 ∷ Enter 1 5
    ∷ Step 0 ∷ Step 1 ∷ Step 0 ∷ Step 1 ∷ Leave 1 ∷ Leave 0 ∷ []

-- class 1, opened by worker 1
abbrev pub opened_by_1 : List Event
opened_by_1 = Enter 1 1 ∷ Step 1 ∷ Leave 1 ∷ []

-- a history that ends within tests 2 and 5, and one that ends within test 6; the value of a key
-- after a history, where it stands by the last opening, the class of that opening, and whether the
-- key is being written
abbrev pub entered_both : List Event
entered_both = Enter 0 1 ∷ Enter 1 4 ∷ Leave 1 ∷ Leave 0 ∷ Enter 0 2 ∷ Enter 1 5 ∷ []

abbrev pub entered_reader : List Event
entered_reader = Enter 1 4 ∷ Leave 1 ∷ Enter 1 6 ∷ []

abbrev pub value_after_history : List Event → ℕ → Option ℕ
value_after_history h k = (state_of counting shop h).nodes.flat k

abbrev pub standing_after : List Event → ℕ → Option ℕ
standing_after h k = standing_value counting shop (state_of counting shop h) k

abbrev pub last_opened_after : List Event → ℕ → Option ℕ
last_opened_after h k = last_opened counting shop (state_of counting shop h) k

abbrev pub is_written_after : List Event → ℕ → Bool
is_written_after h k = is_being_written counting shop (state_of counting shop h) k

-- A suite for refusals alone: node 1 is the root's child, node 6 node 3's, all others node 1's.
-- What conflicts is told by numbers: every node conflicts with each that has number 4 or more.
abbrev pub crowd : (ℕ → Bool) → Bool → Suite Head ℕ ℕ
crowd same is_test = record {
  nodes = 8;
  parent = λ n. cond (leb n 1) 0 (cond (eqb n 6) 3 1);
  path = λ n. [];
  head = λ n. cond is_test (test_head 0 false false 1) (class_head 0 false true);
  is_same_thread = same;
  takes = λ n k. false;
  takes_write = λ n k. false;
  conflict = λ m n. leb 4 m;
  start = numbers;
}

abbrev pub CrowdStatus : Type 0
CrowdStatus = Status Counter Counter (Option (List (Option ℕ)))

abbrev pub waiting : CrowdStatus
waiting = S.Waiting

-- a body that has a step to do, and one that has ended
abbrev pub live : CrowdStatus
live = S.Begun (counter 1 0 [] true)

abbrev pub over : CrowdStatus
over = S.Begun (counter 0 0 [] true)

abbrev pub opened : CrowdStatus
opened = S.Open []

abbrev pub barred_class : CrowdStatus
barred_class = S.Barred []

abbrev pub closing : CrowdStatus
closing = S.Closing [] (counter 0 0 [] true)

abbrev pub finished : CrowdStatus
finished = S.Finished None

-- a state with these statuses from node 0 on, in which one worker owns all nodes. Workers 1 and 7
-- have no body, and all others that of node 4.
abbrev pub crowd_at : List CrowdStatus → ℕ → Bool
    → State ℕ ℕ Counter Counter (Option (List (Option ℕ)))
crowd_at statuses owner stopped = record {
  nodes = record { flat = numbers; status = at waiting statuses; saved = λ n. numbers };
  owner = λ n. owner;
  busy = λ w. cond (eqb w 1 || eqb w 7) None (Some 4);
  stopped = stopped;
}

-- why an event is refused there, on two workers, where all nodes are SAME_THREAD and classes
abbrev pub why : List CrowdStatus → ℕ → Event → Option Refused
why statuses owner e =
    refusal counting (crowd (λ n. true) false) 2 (crowd_at statuses owner false) e

-- the same where all nodes are tests
abbrev pub why_test : List CrowdStatus → ℕ → Event → Option Refused
why_test statuses owner e =
    refusal counting (crowd (λ n. true) true) 2 (crowd_at statuses owner false) e

-- the same where these nodes are SAME_THREAD
abbrev pub why_where : (ℕ → Bool) → List CrowdStatus → ℕ → Event → Option Refused
why_where same statuses owner e =
    refusal counting (crowd same false) 2 (crowd_at statuses owner false) e

-- the same after a stop
abbrev pub why_stopped : List CrowdStatus → ℕ → Event → Option Refused
why_stopped statuses owner e =
    refusal counting (crowd (λ n. true) true) 2 (crowd_at statuses owner true) e

-- why an event is refused in the first state, on two workers, where all nodes are SAME_THREAD and
-- classes
abbrev pub why_first : Event → Option Refused
why_first e =
    refusal counting (crowd (λ n. true) false) 2 (first counting (crowd (λ n. true) false)) e

-- A suite of one class and one test alone, whose chain is that of test 3 of the shop. Key 1 has no
-- value.
abbrev pub kiosk : Suite Head ℕ ℕ
kiosk = record {
  nodes = 3;
  parent = λ n. cond (eqb n 2) 1 0;
  path = λ n. cond (eqb n 2) (2 ∷ 1 ∷ []) (cond (eqb n 1) (1 ∷ []) []);
  head = λ n. cond (eqb n 1) (class_head 2 true true) (test_head 2 false false 1);
  is_same_thread = λ n. true;
  takes = λ n k. eqb n 1 && eqb k 2;
  takes_write = λ n k. eqb n 1 && eqb k 2;
  conflict = λ m n. eqb m 1 && eqb n 1;
  start = λ k. cond (eqb k 2) (Some 7) None;
}

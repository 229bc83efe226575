-- A small language and two suites, for worked examples and as an instance of all laws.
use Rattle.std.specs.Prelude.{ℕ, zero, suc, Bool, true, false, cond, eqb, ◌&&◌, ◌||◌, List, [], ◌∷◌, ◌++◌, Option, Some, None}
use Rattle.std.specs.Option.{option_map}
use Rattle.iso_isolation.specs.Languages.{Content, Progress, Language}
use Rattle.iso_isolation.specs.Suites.{Suite}

-- A head is of a test or a class and names one key: whether it may be looked at, and whether it may
-- be changed. The node's first body has `turns` turns. A class is well, or its `before_all` fails.
pub record Head : Type 0 where
  pub is_test : Bool
  pub key : ℕ
  pub looks : Bool
  pub changes : Bool
  pub turns : ℕ
  pub is_well : Bool

-- whether some head of a chain declares a key so
abbrev pub declared : (Head → Bool) → List Head → ℕ → Bool
declared access [] k = false
declared access (h ∷ hs) k =
    cond (access h) (cond (eqb k h.key) true (declared access hs k)) (declared access hs k)

abbrev pub looks_at : Head → Bool
looks_at h = h.looks || h.changes

-- the turns that are left, the key that they are at, what they saw of it, and whether the body ends
-- well
pub data Counter : Type 0 where
  counter : (left key : ℕ) (seen : List (Option ℕ)) (is_well : Bool) → Counter

abbrev pub seen_by : Counter → List (Option ℕ)
seen_by (counter left key seen w) = seen

abbrev pub ends_well : Counter → Bool
ends_well (counter left key seen w) = w

abbrev pub turns_left : Counter → ℕ
turns_left (counter left key seen w) = left

abbrev pub is_zero : ℕ → Bool
is_zero zero = true
is_zero (suc n) = false

-- a key that may be changed is counted up
abbrev pub counted_up : List Head → ℕ → Content ℕ ℕ → Content ℕ ℕ
counted_up hs key m k =
    cond (eqb k key && declared (λ h. h.changes) hs k) (option_map suc (m k)) (m k)

-- a turn: the body looks at its key, where it may, and counts it up, where it may
abbrev pub turn : List Head → Counter → Content ℕ ℕ → Progress Counter (Content ℕ ℕ)
turn hs (counter zero key seen w) m = record { body = counter zero key seen w; content = m }
turn hs (counter (suc n) key seen w) m =
    record {
      body = counter n key (seen ++ cond (declared looks_at hs key) (m key) None ∷ []) w;
      content = counted_up hs key m;
    }

abbrev pub turns : ℕ → List Head → Counter → Content ℕ ℕ → Progress Counter (Content ℕ ℕ)
turns zero hs b m = record { body = b; content = m }
turns (suc n) hs b m = let p = turn hs b m in turns n hs p.body p.content

-- as many turns as `count` says at the key of the innermost head, after these were seen
abbrev pub counter_of : List Head → (Head → ℕ) → List (Option ℕ) → Counter
counter_of [] count seen = counter 0 0 seen true
counter_of (h ∷ hs) count seen = counter (count h) h.key seen h.is_well

abbrev pub seen_first : List Counter → List (Option ℕ)
seen_first [] = []
seen_first (f ∷ fs) = seen_by f

-- A body begins with what the `before_all` around it saw. A result is what the bodies saw; nothing
-- under a class whose `before_all` failed.
abbrev pub counting : Language Head ℕ ℕ Counter Counter (Option (List (Option ℕ)))
counting = record {
  is_test = λ h. h.is_test;
  reads = declared looks_at;
  writes = declared (λ h. h.changes);
  begin = λ hs fs. counter_of hs (λ h. h.turns) (seen_first fs);
  begin_closing = λ hs fs. counter_of hs (λ h. 1) [];
  step = turn;
  ended = λ b. is_zero (turns_left b);
  distance = turns_left;
  finish = λ hs b m. turns (turns_left b) hs b m;
  frame = λ fs b. b;
  is_well = ends_well;
  test_result = λ b. Some (seen_by b);
  class_result = λ fs b. Some (seen_first fs ++ seen_by b);
  blocked = λ fs. None;
}

abbrev pub at : {A : Type 0} → A → List A → ℕ → A
at d [] n = d
at d (a ∷ rest) zero = a
at d (a ∷ rest) (suc n) = at d rest n

-- a node of a suite: the number of its parent, its mode, the key that it takes, if any, and whether
-- for READ_WRITE
pub record Row : Type 0 where
  pub parent : ℕ
  pub head : Head
  pub is_same_thread : Bool
  pub lock : Option ℕ
  pub is_writer : Bool

abbrev pub class_head : ℕ → Bool → Bool → Head
class_head key changes is_well = record {
  is_test = false;
  key = key;
  looks = false;
  changes = changes;
  turns = 1;
  is_well = is_well;
}

abbrev pub test_head : ℕ → Bool → Bool → ℕ → Head
test_head key looks changes turns = record {
  is_test = true;
  key = key;
  looks = looks;
  changes = changes;
  turns = turns;
  is_well = true;
}

abbrev pub node_in : ℕ → Head → Bool → Option ℕ → Bool → Row
node_in parent head same lock writer =
    record { parent = parent; head = head; is_same_thread = same; lock = lock; is_writer = writer }

abbrev pub no_node : Row
no_node = node_in 0 (class_head 0 false true) true None false

-- 1: a class that counts up key 2, with two tests 2 and 3 that do so too, and a mark of its own for
-- it alone. 4: a class with three CONCURRENT tests: 5 counts up key 1 twice, 6 and 7 look at key 1.
-- 8: a class whose `before_all` fails, with a class 9 and in it a test 10.
abbrev pub rows : List Row
rows =
    no_node
    ∷ node_in 0 (class_head 2 true true) false (Some 2) true
    ∷ node_in 1 (test_head 2 false false 2) true None false
    ∷ node_in 1 (test_head 2 false false 1) true None false
    ∷ node_in 0 (class_head 0 false true) false None false
    ∷ node_in 4 (test_head 1 false true 2) false (Some 1) true
    ∷ node_in 4 (test_head 1 true false 1) false (Some 1) false
    ∷ node_in 4 (test_head 1 true false 1) false (Some 1) false
    ∷ node_in 0 (class_head 0 false false) false None false
    ∷ node_in 8 (class_head 0 false true) false None false
    ∷ node_in 9 (test_head 0 false false 1) false None false
    ∷ []

abbrev pub row_at : ℕ → Row
row_at n = at no_node rows n

-- a node, its parent and so on, at most this number of them
abbrev pub up_from : ℕ → ℕ → List ℕ
up_from most zero = []
up_from zero (suc n) = []
up_from (suc most) (suc n) = suc n ∷ up_from most (row_at (suc n)).parent

abbrev pub is_key : Option ℕ → ℕ → Bool
is_key None k = false
is_key (Some q) k = eqb k q

abbrev pub equal_keys : Option ℕ → Option ℕ → Bool
equal_keys None q = false
equal_keys (Some p) q = is_key q p

-- keys 1 and 2 start as 5 and 7
abbrev pub numbers : Content ℕ ℕ
numbers k = cond (eqb k 1) (Some 5) (cond (eqb k 2) (Some 7) None)

abbrev pub shop : Suite Head ℕ ℕ
shop = record {
  nodes = 11;
  parent = λ n. (row_at n).parent;
  path = λ n. up_from 3 n;
  head = λ n. (row_at n).head;
  is_same_thread = λ n. (row_at n).is_same_thread;
  takes = λ n k. is_key (row_at n).lock k;
  takes_write = λ n k. (row_at n).is_writer && is_key (row_at n).lock k;
  conflict = λ m n. equal_keys (row_at m).lock (row_at n).lock
      && ((row_at m).is_writer || (row_at n).is_writer);
  start = numbers;
}

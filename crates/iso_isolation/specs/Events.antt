-- The events of a run, and the state after each (JUnit 5 User Guide: test lifecycle, parallel
-- execution).
--
-- transition: Enter, Step, Leave and Shut, and the state after each (`after`).
-- Standard: JUnit 5 User Guide, parallel execution.
use Rattle.std.specs.Prelude.{ℕ, Bool, true, false, cond, eqb, ◌&&◌, List, [], ◌∷◌, Option, Some, None}
use Rattle.iso_isolation.specs.Languages.{Language}
use Rattle.iso_isolation.specs.Suites.{Suite, chain, may_write}
use Rattle.iso_isolation.specs.Alone.{restricted}
use Rattle.iso_isolation.specs.Restoring.{finishing}
use Rattle.iso_isolation.specs.States.{Status, Waiting, Begun, Open, Barred, Closing, Finished, Nodes, State, put, is_waiting, body_in, with_body, frames_in}

-- worker w enters node n; makes one step of its body; books its ended body; begins the closing of
-- class n
pub data Event : Type 0 where
  Enter : (w n : ℕ) → Event
  Step : (w : ℕ) → Event
  Leave : (w : ℕ) → Event
  Shut : (w n : ℕ) → Event

-- what an option leads to, and this where there is none
abbrev pub where_some : {A C : Type 0} → Option A → C → (A → C) → C
where_some (Some a) c f = f a
where_some None c f = c

-- the frames that a status tells, if any
abbrev pub frames_of : {B F R : Type 0} → Status B F R → List F
frames_of s = where_some (frames_in s) [] (λ fs. fs)

-- a class whose `before_all` was left is open where that ended well, and barred where it didn't
abbrev pub open_or_barred : {B F R : Type 0} → Bool → List F → Status B F R
open_or_barred true fs = Open fs
open_or_barred false fs = Barred fs

abbrev pub is_in : ℕ → List ℕ → Bool
is_in n [] = false
is_in n (m ∷ ms) = cond (eqb m n) true (is_in n ms)

module _ {H K V B F R : Type 0} (l : Language H K V B F R) (x : Suite H K V) where
  -- whether a node is a descendant of another
  abbrev pub stands_in : ℕ → ℕ → Bool
  stands_in m n = is_in n (x.path (x.parent m))

  -- Enter: the node's first body begins, on the frames of the classes around it, and the values
  -- that it may change are kept
  abbrev pub entering : ℕ → Nodes K V B F R → Nodes K V B F R
  entering n s = record {
    flat = s.flat;
    status = put n (Begun (l.begin (chain x n) (frames_of (s.status (x.parent n))))) s.status;
    saved = put n (restricted (may_write l x n) s.flat) s.saved;
  }

  -- Step: the body does one step on the flat map
  abbrev pub stepping : ℕ → Nodes K V B F R → B → Nodes K V B F R
  stepping n s b =
      let p = l.step (chain x n) b s.flat in
      record {
        flat = p.content;
        status = put n (with_body (s.status n) p.body) s.status;
        saved = s.saved;
      }

  -- the frames that an ended `before_all` leaves
  abbrev pub frames_left : ℕ → B → Nodes K V B F R → List F
  frames_left n b s = let fs = frames_of (s.status (x.parent n)) in l.frame fs b ∷ fs

  abbrev pub ended_well : ℕ → B → Nodes K V B F R → Bool
  ended_well n b s = l.is_well (l.frame (frames_of (s.status (x.parent n))) b)

  -- Leave of a `before_all`: the class is open or barred
  abbrev pub opening_left : ℕ → B → Nodes K V B F R → Nodes K V B F R
  opening_left n b s = record {
    flat = s.flat;
    status = put n (open_or_barred (ended_well n b s) (frames_left n b s)) s.status;
    saved = s.saved;
  }

  -- all that waits in a barred class is finished
  abbrev pub barring : ℕ → List F → Nodes K V B F R → Nodes K V B F R
  barring n fs s = record {
    flat = s.flat;
    status =
        λ m. cond (stands_in m n && is_waiting (s.status m)) (Finished (l.blocked fs)) (s.status m);
    saved = s.saved;
  }

  abbrev pub leaving : ℕ → Nodes K V B F R → Status B F R → Nodes K V B F R
  leaving n s (Begun b) =
      cond (l.is_test (x.head n)) (finishing l x n (l.test_result b) s)
      (cond (ended_well n b s) (opening_left n b s)
      (barring n (frames_left n b s) (opening_left n b s)))
  leaving n s (Closing fs b) = finishing l x n (l.class_result fs b) s
  leaving n s Waiting = s
  leaving n s (Open fs) = s
  leaving n s (Barred fs) = s
  leaving n s (Finished r) = s

  -- Shut: the `after_all` begins
  abbrev pub shutting : ℕ → Nodes K V B F R → Nodes K V B F R
  shutting n s =
      let fs = frames_of (s.status n) in
      record {
        flat = s.flat;
        status = put n (Closing fs (l.begin_closing (chain x n) fs)) s.status;
        saved = s.saved;
      }

  -- the state after an event
  abbrev pub after : State K V B F R → Event → State K V B F R
  after s (Enter w n) = record {
    nodes = entering n s.nodes;
    owner = put n w s.owner;
    busy = put w (Some n) s.busy;
    stopped = s.stopped;
  }
  after s (Step w) = record {
    nodes = where_some (s.busy w) s.nodes
        (λ n. where_some (body_in (s.nodes.status n)) s.nodes (stepping n s.nodes));
    owner = s.owner;
    busy = s.busy;
    stopped = s.stopped;
  }
  after s (Leave w) = record {
    nodes = where_some (s.busy w) s.nodes (λ n. leaving n s.nodes (s.nodes.status n));
    owner = s.owner;
    busy = put w None s.busy;
    stopped = s.stopped;
  }
  after s (Shut w n) = record {
    nodes = shutting n s.nodes;
    owner = s.owner;
    busy = put w (Some n) s.busy;
    stopped = s.stopped;
  }

-- a Step that runs out of memory: the run is stopped, and nothing else changes
abbrev pub stop : {K V B F R : Type 0} → State K V B F R → State K V B F R
stop s = record { nodes = s.nodes; owner = s.owner; busy = s.busy; stopped = true }

-- Runs by worker 0 alone, node by node in the order in which they are written.
--
-- run by worker 0 alone: Node by node in the order in which they are written, the descendants of a
-- class between its `before_all` and its Shut (`IsNodeHistory`, `AreHistories`, `IsSerialHistory`).
use Rattle.std.specs.Prelude.{◌≡◌, ℕ, ◌<◌, List, [], ◌∷◌, ◌++◌, Bool, true, length, take, slice_index_or, ◌≤◌}
use Rattle.iso_isolation.specs.Events.{Event, Enter, Leave, Shut}
use Rattle.std.specs.List.{AllByRecursion}
use Rattle.iso_core.specs.Cores as Cores
use Rattle.iso_core.specs.EventRuns.{AreAccepted, core_after}
use Rattle.iso_isolation.specs.Histories.{IsHistory, state_of}
use Rattle.iso_isolation.specs.Runs.{full, history_of}
use Rattle.iso_isolation.specs.States.{first}
use Rattle.iso_isolation.specs.Suites.{On}
use Rattle.iso_plan.specs.Paths.{children, is_test, parent, row_at}
use Rattle.iso_plan.specs.Planned.{Planned}
use Rattle.iso_plan.specs.RowView.{tree_of}
use Rattle.iso_plan.specs.Tree.{Row}
use Rattle.iso_record.specs.SerialWalks.{BetweenNodes, ComesNext, IsDone, IsOpened, left_in, phase_in, rest_of}
use Rattle.iso_settings.specs.Worlds.{Start}
use Rattle.iso_standing.specs.CodeEvents.{events_of, worker_of}
use Rattle.iso_standing.specs.declared.event.Event as Code
use Rattle.iso_standing.specs.declared.phase.Phase.TheVariants.{Finished}
use Rattle.iso_suites.specs.ScriptLanguage.{scripts}
use Rattle.iso_suites.specs.SuiteStates.{RunState, suite_at}

-- The history of a node by worker 0: a test is entered and left; a class is entered and left, then
-- what stands directly in it has its history, then it is shut and left. Of nodes in their order
-- each has its history, or is left out, as in a class that is barred.
mutual
  pub data IsNodeHistory (tree : List Row) : ℕ → List Event → Type 0 where
    of_test : {n : ℕ} → is_test (row_at tree n).kind ≡ true
        → IsNodeHistory tree n (Enter 0 n ∷ Leave 0 ∷ [])
    of_class : {n : ℕ} {h : List Event} → AreHistories tree (children tree n) h
        → IsNodeHistory tree n (Enter 0 n ∷ Leave 0 ∷ (h ++ Shut 0 n ∷ Leave 0 ∷ []))

  pub data AreHistories (tree : List Row) : List ℕ → List Event → Type 0 where
    of_none : AreHistories tree [] []
    of_next : {n : ℕ} {ns : List ℕ} {g h : List Event} → IsNodeHistory tree n g
        → AreHistories tree ns h → AreHistories tree (n ∷ ns) (g ++ h)
    left_out : {n : ℕ} {ns : List ℕ} {h : List Event} → AreHistories tree ns h
        → AreHistories tree (n ∷ ns) h

-- a whole history by worker 0: that of all top-level classes
abbrev pub IsSerialHistory : List Row → List Event → Type 0
IsSerialHistory tree h = AreHistories tree (children tree 0) h

module _ (plan : Planned) (world : Start) (workers : ℕ) where
  -- the state after a history
  abbrev pub after_history : List Event → RunState
  after_history h = state_of scripts (suite_at plan world) h

  -- the child of a class at a place
  abbrev pub child : ℕ → ℕ → ℕ
  child c j = slice_index_or (children (tree_of plan) c) j 0

  -- a history, and worker 0 may go on with it between two nodes of a class
  pub record IsBetween (c : ℕ) (h : List Event) : Type 0 where
    pub manned : 0 < workers
    pub history : IsHistory scripts (suite_at plan world) workers h
    pub between : BetweenNodes (suite_at plan world) c (after_history h)

  -- worker 0 may run a node: it is in the plan and comes next in its class
  pub record MayRun (n : ℕ) (h : List Event) : Type 0 where
    pub positive : 0 < n
    pub within : n < length plan.rows
    pub at : IsBetween (parent (tree_of plan) n) h
    pub next : ComesNext (suite_at plan world) n (after_history h)

  -- it has run the node: the history goes on by the node's, and it and all its descendants are
  -- finished
  pub record HasRun (n : ℕ) (h g : List Event) : Type 0 where
    pub at : IsBetween (parent (tree_of plan) n) g
    pub done : IsDone (suite_at plan world) n (after_history h) (after_history g)
    pub events : List Event
    pub history : IsNodeHistory (tree_of plan) n events
    pub more : g ≡ h ++ events

  -- a class that is at rest, of which nothing was run yet
  pub record MayRunInside (c : ℕ) (h : List Event) : Type 0 where
    pub within : c < length plan.rows
    pub at : IsBetween c h
    pub well : Bool
    pub here : phase_in (after_history h) c ≡ rest_of well
    pub inside : (m : ℕ) → (m ≡ c → ⊥) → On (suite_at plan world) c m → phase_in (after_history h) m
        ≡ left_in well

  -- all descendants of the class are finished, and no other node has changed
  pub record HasRunInside (c : ℕ) (h g : List Event) : Type 0 where
    pub at : IsBetween c g
    pub done : (m : ℕ) → m < length plan.rows → (m ≡ c → ⊥) → On (suite_at plan world) c m
        → phase_in (after_history g) m ≡ Finished
    pub others : (m : ℕ) → ((m ≡ c → ⊥) → On (suite_at plan world) c m → ⊥)
        → phase_in (after_history g) m ≡ phase_in (after_history h) m
    pub events : List Event
    pub history : AreHistories (tree_of plan) (children (tree_of plan) c) events
    pub more : g ≡ h ++ events

  -- a test has run
  pub record HasRunTest (n : ℕ) (h g : List Event) : Type 0 where
    pub at : IsBetween (parent (tree_of plan) n) g
    pub done : IsDone (suite_at plan world) n (after_history h) (after_history g)
    pub more : g ≡ (h ++ Enter 0 n ∷ []) ++ Leave 0 ∷ []

  -- a class was entered and left, and nothing of it was run yet
  pub record HasOpened (n : ℕ) (h g : List Event) : Type 0 where
    pub at : IsBetween n g
    pub opened : IsOpened (suite_at plan world) n (after_history h) (after_history g)
    pub more : g ≡ (h ++ Enter 0 n ∷ []) ++ Leave 0 ∷ []

  -- a class that is at rest, all of whose children are finished
  pub record MayClose (n : ℕ) (h : List Event) : Type 0 where
    pub positive : 0 < n
    pub within : n < length plan.rows
    pub at : IsBetween n h
    pub well : Bool
    pub here : phase_in (after_history h) n ≡ rest_of well
    pub children : (m : ℕ) → m < length plan.rows → 0 < m → parent (tree_of plan) m ≡ n
        → phase_in (after_history h) m ≡ Finished

  -- it was shut and left, and no other node has changed
  pub record HasClosed (n : ℕ) (h g : List Event) : Type 0 where
    pub at : IsBetween (parent (tree_of plan) n) g
    pub here : phase_in (after_history g) n ≡ Finished
    pub others : (m : ℕ) → (m ≡ n → ⊥) → phase_in (after_history g) m ≡ phase_in (after_history h) m
    pub more : g ≡ (h ++ Shut 0 n ∷ []) ++ Leave 0 ∷ []

  -- of the children of a class this number has run, or is left out since the class is barred; the
  -- others are as they were
  pub record HasRunSome (c : ℕ) (h : List Event) (i : ℕ) (g : List Event) : Type 0 where
    pub may : MayRunInside c h
    pub at : IsBetween c g
    pub done : (j : ℕ) → j < i → (m : ℕ) → m < length plan.rows
        → On (suite_at plan world) (child c j) m → phase_in (after_history g) m ≡ Finished
    pub left : (j : ℕ) → i ≤ j → j < length (children (tree_of plan) c) → (m : ℕ)
        → On (suite_at plan world) (child c j) m
        → phase_in (after_history g) m ≡ left_in may.well
    pub others : (m : ℕ) → ((m ≡ c → ⊥) → On (suite_at plan world) c m → ⊥)
        → phase_in (after_history g) m ≡ phase_in (after_history h) m
    pub events : List Event
    pub history : AreHistories (tree_of plan) (take i (children (tree_of plan) c)) events
    pub more : g ≡ h ++ events

-- Events of a whole run by worker 0: all are its own, they are a history by worker 0 in full, each
-- is accepted after those before it, and all nodes are finished at the end.
pub record AreSerialRecordOf (plan : Planned) (world : Start) (workers : ℕ)
    (es : List Code.Event) : Type 0 where
  pub alone : AllByRecursion (λ e. worker_of e ≡ 0) es
  pub serial : IsSerialHistory (tree_of plan) (history_of (events_of es))
  pub in_full : events_of es ≡ full scripts (suite_at plan world)
      (first scripts (suite_at plan world)) (history_of (events_of es))
  pub accepted : AreAccepted plan world workers es
  pub complete : Cores.is_complete (core_after plan world workers es) ≡ true

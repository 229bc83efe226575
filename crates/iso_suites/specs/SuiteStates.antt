-- The suite of a plan on the values of a world, and the nodes of its states.
--
-- states of a plan's runs: The suite of a plan on the values of a world, and the states of its runs
-- (`suite_at`, `RunState`); how a history of it goes on by a Leave (`GoesOnByLeave`).
use Rattle.std.specs.Prelude.{◌≡◌, ℕ, List, [], ◌∷◌, ◌++◌, Option, Some, Bool, true, replicate}
use Rattle.iso_suites.specs.PlanSuites.{suite_of}
use Rattle.iso_suites.specs.ScriptLanguage.{Head, scripts}
use Rattle.iso_isolation.specs.Events.{Event, Leave, Step, after}
use Rattle.iso_isolation.specs.Histories.{IsHistory, state_of}
use Rattle.iso_isolation.specs.Refusals as Why
use Rattle.iso_isolation.specs.Refusals.{Refused, first_of}
use Rattle.iso_isolation.specs.Runs.{after_all_of, is_run}
use Rattle.iso_isolation.specs.States.{Nodes, State, body_in, first}
use Rattle.iso_isolation.specs.Suites.{Suite}
use Rattle.iso_lifecycle.specs.Subjects.{started}
use Rattle.iso_model.specs.Bodies.{Stage, is_ended}
use Rattle.iso_model.specs.Openings.{Frame}
use Rattle.iso_model.specs.declared.outcome.Outcome.{Outcome}
use Rattle.iso_model.specs.declared.resource.Resource.{Resource}
use Rattle.iso_plan.specs.Planned.{Planned}
use Rattle.iso_plan.specs.RowView.{tree_of}
use Rattle.iso_settings.specs.Worlds.{Start}

abbrev pub suite_at : Planned → Start → Suite Head (List ℕ) Resource
suite_at plan world = suite_of (tree_of plan) plan.settings (started world)

-- a state of a run of scripts
abbrev pub RunState : Type 0
RunState = State (List ℕ) Resource Stage Frame Outcome

-- a state, stopped or not
abbrev pub stopped_if : Bool → RunState → RunState
stopped_if stopped s = record { nodes = s.nodes; owner = s.owner; busy = s.busy; stopped = stopped }

-- the resources and the nodes of a state
abbrev pub RunNodes : Type 0
RunNodes = Nodes (List ℕ) Resource Stage Frame Outcome

-- a state that some run of the suite leads to, on some number of workers
pub record IsReached (plan : Planned) (world : Start) (s : RunState) : Type 0 where
  pub workers : ℕ
  pub events : List Event
  pub run : is_run scripts (suite_at plan world) workers
      (first scripts (suite_at plan world)) events ≡ true
  pub state : after_all_of scripts (suite_at plan world)
      (first scripts (suite_at plan world)) events ≡ s

-- why what a worker's body came to can't be booked, if it can't: of the kinds that a Leave tests
-- but for the end of the body, the first that applies
abbrev pub booking_refusal : Suite Head (List ℕ) Resource → ℕ → RunState → ℕ → Option Refused
booking_refusal x workers s w = first_of (Why.stopped scripts x workers s
    ∷ Why.no_worker scripts x workers s w ∷ Why.no_body scripts x workers s w ∷ [])

-- A history goes on by a worker's Leave: the steps that its body still needs are made, the body has
-- ended then, and it is left.
pub record GoesOnByLeave (plan : Planned) (world : Start) (workers : ℕ) (h : List Event)
    (w : ℕ) : Type 0 where
  pub steps : ℕ
  pub before : RunState
  pub made : after_all_of scripts (suite_at plan world) (state_of scripts (suite_at plan world) h)
      (replicate steps (Step w)) ≡ before
  pub run : is_run scripts (suite_at plan world) workers (state_of scripts (suite_at plan world) h)
      (replicate steps (Step w)) ≡ true
  pub reached : IsReached plan world before
  pub node : ℕ
  pub body : Stage
  pub busy : before.busy w ≡ Some node
  pub there : body_in (before.nodes.status node) ≡ Some body
  pub over : is_ended body ≡ true
  pub history : IsHistory scripts (suite_at plan world) workers (h ++ Leave w ∷ [])
  pub state : state_of scripts (suite_at plan world) (h ++ Leave w ∷ [])
      ≡ after scripts (suite_at plan world) before (Leave w)

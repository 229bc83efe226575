-- What contracts see of the core of a run, and the state that it is in.
--
-- core: The plan and world of a core, its workers, the events that it has accepted and whether it
-- was stopped (`CoreView`); the state after these events (`state_in`); why it refuses an event
-- (`refusal_in`), and what it is after one that is accepted, refused or ran out of memory
-- (`Accepted`, `NotAccepted`).
-- Standard: JUnit 5 User Guide, parallel execution.
use Rattle.std.specs.Prelude.{◌≡◌, ◌<◌, ◌^◌, ℕ, List, [], ◌∷◌, ◌++◌, Option, Some, None, Bool, true, false, length, refl}
use Rattle.std.specs.Coded.{Coded, code_by, coded×, coded_list, coded_bool, coded_ℕ}
use Rattle.iso_core.specs.FlatMaps.{FlatView, IsFlatOf}
use Rattle.iso_standing.specs.ResultStates.{AreResultsOf}
use Rattle.iso_suites.specs.ScriptLanguage.{Head, scripts}
use Rattle.iso_standing.specs.Standings.{LooksLike, Standing, workers_in}
use Rattle.iso_suites.specs.SuiteStates.{stopped_if, suite_at, RunState}
use Rattle.iso_standing.specs.UnderWay.{AreBodiesOf}
use Rattle.iso_standing.specs.declared.refused.CoreFault.{CoreFault}
use Rattle.iso_standing.specs.declared.refused.CoreFault.TheVariants as F
use Rattle.iso_isolation.specs.Refusals as Why
use Rattle.iso_isolation.specs.Refusals.{refusal}
use Rattle.iso_isolation.specs.Runs as Runs
use Rattle.iso_isolation.specs.Runs.{after_all_of, is_run, result_of}
use Rattle.iso_isolation.specs.States.{first}
use Rattle.iso_isolation.specs.Suites.{Suite}
use Rattle.iso_lifecycle.specs.ResultViews.{ResultsView}
use Rattle.iso_lifecycle.specs.declared.body.Body.{Body}
use Rattle.iso_model.specs.declared.outcome.Outcome.{Outcome}
use Rattle.iso_model.specs.declared.resource.Resource.{Resource}
use Rattle.iso_plan.specs.Planned.{Planned}
use Rattle.iso_plan.specs.contracts.plan.Plan as plan
use Rattle.iso_standing.specs.CodeEvents.{event_of, events_of, refused_of}
use Rattle.iso_standing.specs.contracts.event.Event as event
use Rattle.iso_standing.specs.declared.event.Event.{Event}
use Rattle.iso_standing.specs.declared.event.Event.TheVariants as Code
use Rattle.iso_settings.specs.Worlds.{Start, start_code}

-- the plan and the world that it was made for, the number of workers, the events that it accepted,
-- and whether it was stopped
pub record CoreView : Type 0 where
  pub plan : Planned
  pub world : Start
  pub workers : ℕ
  pub events : List Event
  pub stopped : Bool

abbrev Parts : Type 0
Parts = Planned × (Start × (ℕ × (List Event × Bool)))

abbrev parts_code : Coded Parts
parts_code =
    coded× plan.the_row.coded
    (coded× start_code (coded× coded_ℕ (coded× (coded_list event.the_row.coded) coded_bool)))

abbrev from_parts : Parts → CoreView
from_parts p =
    record { plan = p.0; world = p.1.0; workers = p.1.1.0; events = p.1.1.1.0; stopped = p.1.1.1.1 }

abbrev pub core_code : Coded CoreView
core_code = code_by Parts parts_code (λ v. (v.plan, (v.world, (v.workers, (v.events, v.stopped)))))
    from_parts (λ _. refl)

-- a core of a plan and a world that has accepted no event
abbrev pub new_core : Planned → Start → ℕ → CoreView
new_core plan world workers =
    record { plan = plan; world = world; workers = workers; events = []; stopped = false }

abbrev pub suite_in : CoreView → Suite Head (List ℕ) Resource
suite_in c = suite_at c.plan c.world

-- the state that it is in: the one after the events that it accepted
abbrev pub state_in : CoreView → RunState
state_in c =
    stopped_if c.stopped (after_all_of scripts (suite_in c) (first scripts (suite_in c))
    (events_of c.events))

-- why it refuses an event, if it does
abbrev pub refusal_in : CoreView → Event → Option Why.Refused
refusal_in c e = refusal scripts (suite_in c) c.workers (state_in c) (event_of e)

-- the core with one event more
abbrev pub with_event : CoreView → Event → CoreView
with_event c e = record c { events = c.events ++ e ∷ [] }

-- the core after it ran out of memory: in a Step it is stopped, in any other event nothing changed
abbrev pub after_want : CoreView → Event → CoreView
after_want c (Code.Enter worker node) = c
after_want c (Code.Step worker) = record c { stopped = true }
after_want c (Code.Leave worker) = c
after_want c (Code.Shut worker node) = c

-- an event was accepted: nothing refuses it, and the core has one event more
pub record Accepted (e : Event) (old new : CoreView) : Type 0 where
  pub allowed : refusal_in old e ≡ None
  pub core : new ≡ with_event old e

-- an event was refused by the first kind that applies, and nothing has changed; or nothing refuses
-- it and memory was wanted
pub record IsRefused (why : Option Why.Refused) (e : Event) (old new : CoreView) : Type 0 where
  pub first : refusal_in old e ≡ why
  pub same : new ≡ old

pub record IsWanting (e : Event) (old new : CoreView) : Type 0 where
  pub allowed : refusal_in old e ≡ None
  pub core : new ≡ after_want old e

abbrev pub NotAccepted : CoreFault → Event → CoreView → CoreView → Type 0
NotAccepted (F.Refused why) e old new = IsRefused (Some (refused_of why)) e old new
NotAccepted F.OutOfMemory e old new = IsWanting e old new

-- the outcome of a node, if it is finished
abbrev pub outcome_in : CoreView → ℕ → Option Outcome
outcome_in c n = result_of (state_in c) n

-- whether every node but the root is finished
abbrev pub is_complete : CoreView → Bool
is_complete c = Runs.is_complete (suite_in c) (state_in c)

-- What every core is: its events are a run of its suite; its workers have numbers of 32 bits; where
-- its nodes and workers stand and its results are those of its state, and so are its flat map and
-- its bodies, until it is stopped.
pub record IsCore (c : CoreView) (standing : Standing) (flat : FlatView)
    (bodies : List (Option Body)) (results : ResultsView) : Type 0 where
  pub run : is_run scripts (suite_in c) c.workers (first scripts (suite_in c))
      (events_of c.events) ≡ true
  pub few : c.workers < 2 ^ 32
  pub standing_plan : standing.plan ≡ c.plan
  pub workers : workers_in standing ≡ c.workers
  pub stands : LooksLike standing (state_in c)
  pub flat_plan : flat.tray.plan ≡ c.plan
  pub flat_world : flat.tray.world ≡ c.world
  pub flat_is : c.stopped ≡ false → IsFlatOf flat (state_in c).nodes
  pub bodies_fit : length bodies ≡ c.workers
  pub bodies_are : c.stopped ≡ false → AreBodiesOf c.plan c.world bodies (state_in c)
  pub results_plan : results.plan ≡ c.plan
  pub results_world : results.start ≡ c.world
  pub results_are : AreResultsOf results (state_in c).nodes

-- Records of runs: histories with the steps of each body before its Leave.
--
-- record of a run: Events that are a history in full, each accepted after those before it, with as
-- many nodes finished at the end (`AreRecordOf`).
use Rattle.std.specs.Prelude.{◌≡◌, ℕ, Bool, List, [], ◌∷◌, ◌++◌, replicate, Some, true, false}
use Rattle.iso_core.specs.Cores.{CoreView, IsRefused, is_complete, state_in, suite_in}
use Rattle.iso_core.specs.EventRuns.{AreAccepted, core_after}
use Rattle.iso_isolation.specs.Events as E
use Rattle.iso_isolation.specs.Histories.{IsHistory, state_of}
use Rattle.iso_isolation.specs.Runs as Runs
use Rattle.iso_isolation.specs.Runs.{full, history_of, is_run}
use Rattle.iso_isolation.specs.States.{first}
use Rattle.iso_plan.specs.Planned.{Planned}
use Rattle.iso_settings.specs.Worlds.{Start}
use Rattle.iso_standing.specs.CodeEvents.{event_of, events_of, refused_of}
use Rattle.iso_standing.specs.declared.refused.CoreFault.{CoreFault}
use Rattle.iso_standing.specs.declared.refused.CoreFault.TheVariants as F
use Rattle.iso_standing.specs.declared.event.Event.{Event}
use Rattle.iso_standing.specs.declared.event.Event.TheVariants as Code
use Rattle.iso_suites.specs.ScriptLanguage.{scripts}
use Rattle.iso_suites.specs.SuiteStates.{suite_at}

-- Events that record a history: they are the history in full, with the steps of each body right
-- before its Leave, each is accepted after those before it, and after them as many nodes are
-- finished as after the history.
pub record AreRecordOf (plan : Planned) (world : Start) (workers : ℕ)
    (h es : List Event) : Type 0 where
  pub in_full : events_of es ≡ full scripts (suite_at plan world)
      (first scripts (suite_at plan world)) (events_of h)
  pub accepted : AreAccepted plan world workers es
  pub history : history_of (events_of es) ≡ events_of h
  pub complete : is_complete (core_after plan world workers es)
      ≡ Runs.is_complete (suite_at plan world)
      (state_of scripts (suite_at plan world) (events_of h))

-- the Enters, Leaves and Shuts that a core has taken
abbrev pub history_in : CoreView → List E.Event
history_in c = history_of (events_of c.events)

-- of one plan and world, with as many workers
pub record OfSameSuite (c d : CoreView) : Type 0 where
  pub plan : d.plan ≡ c.plan
  pub world : d.world ≡ c.world
  pub workers : d.workers ≡ c.workers

-- a core that isn't stopped has taken this history in full, and nothing else
pub record HasTaken (c : CoreView) (h : List E.Event) : Type 0 where
  pub going : c.stopped ≡ false
  pub events : events_of c.events ≡ full scripts (suite_in c) (first scripts (suite_in c)) h

-- its history goes on by an event, before which a body may have to make steps
abbrev pub GoesOnBy : CoreView → Event → Type 0
GoesOnBy c e = IsHistory scripts (suite_in c) c.workers (history_in c ++ event_of e ∷ [])

-- it has taken one event of a history more, with the steps before it
pub record HasGoneOnBy (e : Event) (c d : CoreView) : Type 0 where
  pub taken : HasTaken d (history_in d)
  pub history : history_in d ≡ history_in c ++ event_of e ∷ []

-- a number of steps of a worker's body is accepted, and then its Leave
pub record IsLeaving (c : CoreView) (w : ℕ) : Type 0 where
  pub steps : ℕ
  pub run : is_run scripts (suite_in c) c.workers (state_in c)
      (replicate steps (E.Step w) ++ E.Leave w ∷ []) ≡ true

-- an event wasn't taken: where that is told, it was refused, and nothing has changed
abbrev pub RefusedIfTold : CoreFault → Event → CoreView → CoreView → Type 0
RefusedIfTold (F.Refused why) e old new = IsRefused (Some (refused_of why)) e old new
RefusedIfTold F.OutOfMemory e old new = Unit {0}

-- whether an event is a Leave
abbrev pub is_leave : Event → Bool
is_leave (Code.Enter w n) = false
is_leave (Code.Step w) = false
is_leave (Code.Leave w) = true
is_leave (Code.Shut w n) = false

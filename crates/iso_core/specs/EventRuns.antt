-- What a list of events comes to that a new core takes in turn.
--
-- a list of events: What a new core comes to that takes the events in turn, or where it ended
-- (`Ran`, `StoppedAt`).
use Rattle.std.specs.Prelude.{◌≡◌, ℕ, ◌<◌, List, Option, Some, None, true, take, slice_index_or, length}
use Rattle.iso_standing.specs.CodeEvents.{events_of, refused_of}
use Rattle.iso_core.specs.Cores.{CoreView, new_core, refusal_in, suite_in}
use Rattle.iso_suites.specs.ScriptLanguage.{scripts}
use Rattle.iso_standing.specs.declared.refused.CoreFault.{CoreFault}
use Rattle.iso_standing.specs.declared.refused.CoreFault.TheVariants as F
use Rattle.iso_core.specs.declared.run_events.EventsFault.{EventsFault}
use Rattle.iso_isolation.specs.Refusals.{Refused}
use Rattle.iso_isolation.specs.Runs.{is_run}
use Rattle.iso_isolation.specs.States.{first}
use Rattle.iso_plan.specs.Planned.{Planned}
use Rattle.iso_standing.specs.declared.event.Event.{Event}
use Rattle.iso_standing.specs.declared.event.Event.TheVariants.{Step}
use Rattle.iso_settings.specs.Worlds.{Start}

-- a new core that has taken these events
abbrev pub core_after : Planned → Start → ℕ → List Event → CoreView
core_after plan world workers es = record (new_core plan world workers) { events = es }

-- each of these events is accepted after those before it
abbrev pub AreAccepted : Planned → Start → ℕ → List Event → Type 0
AreAccepted plan world workers es =
    let c = new_core plan world workers in
    is_run scripts (suite_in c) workers (first scripts (suite_in c)) (events_of es) ≡ true

-- all events were accepted, and the core has taken them
pub record Ran (plan : Planned) (world : Start) (workers : ℕ) (es : List Event)
    (c : CoreView) : Type 0 where
  pub accepted : AreAccepted plan world workers es
  pub core : c ≡ core_after plan world workers es

abbrev pub event_at : List Event → ℕ → Event
event_at es i = slice_index_or es i (Step 0)

-- the event after the first `i` is refused for this reason, and all those before it were
-- accepted
pub record RefusedAt (plan : Planned) (world : Start) (workers : ℕ) (es : List Event) (i : ℕ)
    (why : Option Refused) : Type 0 where
  pub within : i < length es
  pub earlier : AreAccepted plan world workers (take i es)
  pub refused : refusal_in (core_after plan world workers (take i es)) (event_at es i) ≡ why

-- Memory ran out at the event after the first `i`: those were accepted, and nothing refuses
-- it in the state after them. Where there are none, it may have run out for a new core.
pub record WantedAt (plan : Planned) (world : Start) (workers : ℕ) (es : List Event)
    (i : ℕ) : Type 0 where
  pub within : (i ≡ 0 → ⊥) → i < length es
  pub earlier : AreAccepted plan world workers (take i es)
  pub allowed : (i ≡ 0 → ⊥) → refusal_in (core_after plan world workers (take i es))
      (event_at es i) ≡ None

-- where a list of events ended early: an event was refused, or memory was wanted for it
abbrev pub EndedBy : CoreFault → Planned → Start → ℕ → List Event → ℕ → Type 0
EndedBy (F.Refused why) plan world workers es i =
    RefusedAt plan world workers es i (Some (refused_of why))
EndedBy F.OutOfMemory plan world workers es i = WantedAt plan world workers es i

abbrev pub StoppedAt : Planned → Start → ℕ → List Event → EventsFault → Type 0
StoppedAt plan world workers es f = EndedBy f.fault plan world workers es f.index

-- What ways of running a suite come to, and why one has no whole report.
--
-- way of a run: On one thread, by workers, or by a recorded schedule (`Way`), and what it came to
-- (`IsPlayed`): a schedule is accepted to its end (`IsAccepted`); by workers only that there is a
-- suite.
--
-- cause of a fault: Why a text of a suite wasn't written: the inputs are none; of a replay the
-- first fault of its lines and events (`Cause`); of workers that the inputs are a suite, and for a
-- thread that wasn't started that it has two of them (`IsOfWorkers`).
use Rattle.std.specs.Prelude.{◌≡◌, ℕ, ◌≤◌, List, Bool, true, false, ⊤, Some, Ok, Err}
use Rattle.iso_standing.specs.CodeEvents.{refused_of}
use Rattle.iso_core.specs.Cores.{is_complete}
use Rattle.iso_core.specs.EventRuns.{AreAccepted, RefusedAt, core_after}
use Rattle.iso_standing.specs.declared.refused.CoreFault.TheVariants as C
use Rattle.iso_core.specs.declared.run_events.EventsFault.{EventsFault}
use Rattle.iso_run.specs.Suites.{NoSuite, OfSuite, Suite, planned}
use Rattle.iso_run.specs.declared.run_fault.RunFault.{RunFault}
use Rattle.iso_run.specs.declared.run_fault.RunFault.TheVariants.{Schedule, Refused, Unfinished, Start, Lost, Memory, Write}
use Rattle.iso_run.specs.declared.inputs.Inputs.{Inputs}
use Rattle.iso_run.specs.declared.way.Way.{Way}
use Rattle.iso_run.specs.declared.way.Way.TheVariants.{Serial, ByWorkers, BySchedule}
use Rattle.iso_schedule.specs.Schedules.{AreRead, ScheduleError}
use Rattle.iso_standing.specs.declared.event.Event.{Event}
use Rattle.iso_model.specs.declared.input_error.InputError.TheVariants as S

-- the fault of a replay whose schedule could not be read
abbrev pub schedule_fault : ScheduleError → RunFault
schedule_fault (S.Fault fault) = Schedule fault
schedule_fault S.OutOfMemory = Memory

-- the fault of a replay whose core did not take an event
abbrev pub events_fault : EventsFault → RunFault
events_fault stopped = elim stopped.fault [
  | C.Refused why ↦ Refused stopped.index why
  | C.OutOfMemory ↦ Memory
]

-- The inputs are a suite and the schedule is events, of both of which something is true.
abbrev pub OfReplay : Inputs → List ℕ → (Suite → List Event → Type 0) → Type 0
OfReplay inputs schedule Is =
    OfSuite inputs (λ suite. (events : List Event) × AreRead schedule (Ok events) × Is suite events)

-- The workers of the settings have each event accepted, and this tells whether every node but the
-- root is finished then.
abbrev pub IsAccepted : Suite → List Event → (whole : Bool) → Type 0
IsAccepted suite events whole =
    AreAccepted (planned suite) suite.start suite.settings.worker_count events
    × (is_complete (core_after (planned suite) suite.start suite.settings.worker_count events)
    ≡ whole)

-- what a way came to, and whether every node but the root is finished then; of workers only that
-- the inputs are a suite
abbrev pub IsPlayed : Inputs → Way → (whole : Bool) → Type 0
IsPlayed inputs Serial whole = whole ≡ true
IsPlayed inputs ByWorkers whole = OfSuite inputs (λ suite. ⊤)
IsPlayed inputs (BySchedule schedule) whole =
    OfReplay inputs schedule.now (λ suite events. IsAccepted suite events whole)

-- the suite is run by a schedule of which something is true
abbrev pub IsByScheduleAnd : Way → (List ℕ → Type 0) → Type 0
IsByScheduleAnd (BySchedule schedule) Is = Is schedule.now
IsByScheduleAnd _ Is = ⊥

-- Why a text of a suite wasn't written whole. Of what stops workers it is told that the inputs are
-- a suite, and where a thread wasn't started, that there are two workers at least: the first has
-- none of its own.
abbrev pub Cause : Inputs → Way → RunFault → Type 0
Cause inputs way (Schedule fault) =
    IsByScheduleAnd way (λ schedule. OfSuite inputs (λ suite. AreRead schedule (Err fault)))
Cause inputs way (Refused index why) =
    IsByScheduleAnd way (λ schedule. OfReplay inputs schedule (λ suite events.
    RefusedAt (planned suite) suite.start suite.settings.worker_count events index
    (Some (refused_of why))))
Cause inputs way Unfinished = IsPlayed inputs way false
Cause inputs way Start =
    (way ≡ ByWorkers) × OfSuite inputs (λ suite. 2 ≤ suite.settings.worker_count)
Cause inputs way Lost = (way ≡ ByWorkers) × OfSuite inputs (λ suite. ⊤)
Cause inputs way (Write written) = IsPlayed inputs way true
Cause inputs way fault = NoSuite inputs fault

-- one of `workers` workers couldn't be started, memory ran out, a receipt is lost, or a node isn't
-- finished
abbrev pub IsOfWorkers : (workers : ℕ) → RunFault → Type 0
IsOfWorkers workers Start = 2 ≤ workers
IsOfWorkers workers Memory = ⊤
IsOfWorkers workers Lost = ⊤
IsOfWorkers workers Unfinished = ⊤
IsOfWorkers workers _ = ⊥

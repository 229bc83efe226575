-- What a run tells of its course: its events, when each body ran, and what was waited for.
--
-- what a run tells of its course: Of each text that is asked for that it was told, and of no other
-- (`IsCourse`, `TellsCourse`): lines of events (`IsScheduled`) that are a whole run of the suite
-- and can be replayed (`AreWhole`, `AreInOrder`, `AreRecord`), the trace of a run that was observed
-- (`ObservedView`, `IsRunOf`, `trace_of`), and its figures (`AreFigures`, `IsCounted`).
use Rattle.std.specs.Borrow.{Bor}
use Rattle.std.specs.List.{AllByRecursion}
use Rattle.std.specs.Prelude.{◌≡◌, ⊤, ℕ, ◌≤◌, List, Bool, true, Option, None, Some, ◌||◌, is_some, length}
use Rattle.iso_core.specs.Cores.{is_complete}
use Rattle.iso_core.specs.EventRuns.{AreAccepted, core_after}
use Rattle.iso_critical.specs.Critical.{critical, run_of}
use Rattle.iso_critical.specs.declared.body.Body.{Body}
use Rattle.iso_isolation.specs.Runs.{full, history_of}
use Rattle.iso_isolation.specs.States.{first}
use Rattle.iso_lifecycle.specs.ResultViews.{AreComplete, ResultsView}
use Rattle.iso_model.specs.declared.limits.TheConstants.{FILE_BYTES}
use Rattle.iso_plan.specs.Planned.{Planned}
use Rattle.iso_plan.specs.RowView.{tree_of}
use Rattle.iso_record.specs.SerialRuns.{IsSerialHistory}
use Rattle.iso_record.specs.Texts.{schedule_text}
use Rattle.iso_run.specs.Replays.{IsPlayed}
use Rattle.iso_run.specs.Suites.{OfSuite, Suite, planned}
use Rattle.iso_run.specs.declared.course.Course.{Course}
use Rattle.iso_run.specs.declared.inputs.Inputs.{Inputs}
use Rattle.iso_run.specs.declared.observation.Observed.{Observed}
use Rattle.iso_run.specs.declared.way.Way.{Way}
use Rattle.iso_run.specs.declared.way.Way.TheVariants.{Serial, ByWorkers, BySchedule}
use Rattle.iso_settings.specs.Worlds.{Start}
use Rattle.iso_standing.specs.CodeEvents.{events_of, worker_of}
use Rattle.iso_standing.specs.declared.event.Event.{Event}
use Rattle.iso_stats.specs.Measures.{span, test_count, work}
use Rattle.iso_stats.specs.Shares.{percent}
use Rattle.iso_stats.specs.StatsText.{stats_text}
use Rattle.iso_stats.specs.declared.figures.Figures.{Figures}
use Rattle.iso_suites.specs.ScriptLanguage.{scripts}
use Rattle.iso_suites.specs.SuiteStates.{suite_at}
use Rattle.iso_tap.specs.Sinks.{Account, Wrote}
use Rattle.iso_telling.specs.Telling.{IsTold}
use Rattle.iso_times.specs.declared.times.BodyTime.{BodyTime}
use Rattle.iso_trace.specs.TraceText.{trace_text}
use Rattle.iso_waits.specs.AllWaits.{all_waits}
use Rattle.iso_waits.specs.declared.wait.NodeWait.{NodeWait}

-- nothing is asked for
abbrev pub IsUnasked : Course → Type 0
IsUnasked course = (course.schedule ≡ None) × (course.trace ≡ None) × (course.stats ≡ None)

-- whether it has to be known when each body ran
abbrev pub wants_times : Course → Bool
wants_times course = is_some course.trace || is_some course.stats

-- Events are a whole run of a plan by `workers` workers: each is accepted after those before it,
-- the steps of each body stand right before its Leave, and every node is finished at the end.
pub record AreWhole (plan : Planned) (start : Start) (workers : ℕ)
    (events : List Event) : Type 0 where
  pub accepted : AreAccepted plan start workers events
  pub in_full : events_of events ≡ full scripts (suite_at plan start)
      (first scripts (suite_at plan start)) (history_of (events_of events))
  pub complete : is_complete (core_after plan start workers events) ≡ true

-- in a run on one thread all events are worker 0's, node by node in the order in which they are
-- written
abbrev pub AreInOrder : Way → Planned → List Event → Type 0
AreInOrder Serial plan events = AllByRecursion (λ e. worker_of e ≡ 0) events
    × IsSerialHistory (tree_of plan) (history_of (events_of events))
AreInOrder ByWorkers plan events = ⊤
AreInOrder (BySchedule schedule) plan events = ⊤

-- the events of a run in some way
abbrev pub AreEvents : Way → Planned → Start → (workers : ℕ) → List Event → Type 0
AreEvents way plan start workers events = AreWhole plan start workers events
    × AreInOrder way plan events

-- lines of events of which something is true were told where they are asked for, and nothing where
-- they aren't
abbrev pub IsScheduled : (List Event → Type 0) → (old new : Option Account) → Type 0
IsScheduled Are None new = new ≡ None
IsScheduled Are (Some old) None = ⊥
IsScheduled Are (Some old) (Some new) = (events : List Event) × Are events
    × Wrote old new (schedule_text events)

-- a run that was observed: its plan, its results, the times of its bodies, and how many workers
-- were started of how many
pub record ObservedView : Type 0 where
  pub plan : Planned
  pub results : ResultsView
  pub times : List (Option BodyTime)
  pub started : ℕ
  pub of : ℕ

abbrev pub observed_of : Observed → ObservedView
observed_of run = record {
  plan = run.plan.now;
  results = run.results.now;
  times = run.times.now;
  started = run.started;
  of = run.of;
}

-- what its nodes waited for
abbrev pub waits_of : ObservedView → List NodeWait
waits_of run = all_waits (tree_of run.plan) run.plan.settings run.times

-- its critical bodies
abbrev pub critical_of : ObservedView → List Body
critical_of run = critical (run_of run.plan run.times (waits_of run))

-- its trace, with these
abbrev pub trace_of : ObservedView → List ℕ
trace_of run =
    trace_text (tree_of run.plan) run.times run.results run.started (waits_of run) (critical_of run)

-- its figures, as far as it is said what they are
pub record AreFigures (run : ObservedView) (figures : Figures) : Type 0 where
  pub tests_are : figures.tests ≡ test_count (tree_of run.plan)
  pub workers_are : figures.workers ≡ run.started
  pub of_is : figures.of ≡ run.of
  pub span_is : figures.span ≡ span (tree_of run.plan) run.times
  pub busy_is : figures.busy ≡ percent (work (tree_of run.plan) run.times) run.started
      (span (tree_of run.plan) run.times)

-- its figures were told where they are asked for, and nothing where they aren't
abbrev pub IsCounted : ObservedView → (old new : Option Account) → Type 0
IsCounted run None new = new ≡ None
IsCounted run (Some old) None = ⊥
IsCounted run (Some old) (Some new) = (figures : Figures) × AreFigures run figures
    × Wrote old new (stats_text (tree_of run.plan) figures)

-- all that is asked for of its times was told, and its events are asked for as before
pub record HasObserved (run : ObservedView) (old new : Course) : Type 0 where
  pub schedule : new.schedule ≡ old.schedule
  pub trace : IsTold (trace_of run) old.trace new.trace
  pub stats : IsCounted run old.stats new.stats

-- how many workers are started: on one thread one, and else some of them
abbrev pub AreStarted : Way → (workers started : ℕ) → Type 0
AreStarted Serial workers started = started ≡ 1
AreStarted ByWorkers workers started = (1 ≤ started) × (started ≤ workers)
AreStarted (BySchedule schedule) workers started = ⊤

-- a run of a plan by `workers` workers: all nodes have results
pub record IsRunOf (way : Way) (plan : Planned) (start : Start) (workers : ℕ)
    (run : ObservedView) : Type 0 where
  pub plan_is : run.plan ≡ plan
  pub results_plan : run.results.plan ≡ plan
  pub results_start : run.results.start ≡ start
  pub complete : AreComplete run.results
  pub started : AreStarted way workers run.started
  pub of : run.of ≡ workers

-- All that is asked for of a run's course was told: its events, of which something is true, its
-- trace and its figures.
pub record IsCourse (Are : List Event → Type 0) (way : Way) (plan : Planned) (start : Start)
    (workers : ℕ) (old new : Course) : Type 0 where
  pub schedule : IsScheduled Are old.schedule new.schedule
  pub run : ObservedView
  pub is_run : IsRunOf way plan start workers run
  pub trace : IsTold (trace_of run) old.trace new.trace
  pub stats : IsCounted run old.stats new.stats

-- Events are the record of a run of the suite that inputs are. Where their text is no longer than a
-- schedule may be, a replay of it comes to its end with every node finished, and so writes the same
-- report.
pub record AreRecord (inputs : Inputs) (suite : Suite) (way : Way)
    (events : List Event) : Type 0 where
  pub whole : AreWhole (planned suite) suite.start suite.settings.worker_count events
  pub in_order : AreInOrder way (planned suite) events
  pub replays : (schedule : Bor (List ℕ)) → schedule.now ≡ schedule_text events
      → length schedule.now ≤ FILE_BYTES → IsPlayed inputs (BySchedule schedule) true

-- the course of a run of the suite that inputs are was told
abbrev pub TellsCourse : Inputs → Way → (old new : Course) → Type 0
TellsCourse inputs way old new =
    OfSuite inputs (λ suite. IsCourse (AreRecord inputs suite way) way
    (planned suite) suite.start suite.settings.worker_count old new)

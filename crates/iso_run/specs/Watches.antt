-- What is told of a run besides its report and its course, with what was watched of it.
use Rattle.std.specs.Prelude.{◌≡◌, ℕ, List, Bool, true, false, Option, None, Some, is_some}
use Rattle.iso_plan.specs.Planned.{Planned}
use Rattle.iso_run.specs.Courses.{AreFigures, IsRunOf, ObservedView, critical_of, waits_of}
use Rattle.iso_run.specs.Runs.{TellsOf}
use Rattle.iso_run.specs.Suites.{OfSuite, planned}
use Rattle.iso_run.specs.declared.inputs.Inputs.{Inputs}
use Rattle.iso_run.specs.declared.watch.Watch.{Watch}
use Rattle.iso_run.specs.declared.way.Way.{Way}
use Rattle.iso_settings.specs.Worlds.{Start}
use Rattle.iso_telling.specs.Pages.{WatchedView}
use Rattle.iso_telling.specs.declared.tells.Tells.{Tells}
use Rattle.iso_times.specs.declared.times.BodyTime.{BodyTime}

-- what was watched of a run, with the times of its bodies
abbrev pub watched_with : List (Option BodyTime) → Watch → WatchedView
watched_with bodies w =
    record { bodies = bodies; figures = w.figures; waits = w.waits.items; critical = w.critical }

-- a run was watched where that is asked for, and else not: its figures, as far as it is said what
-- they are, its waits and its critical bodies
abbrev pub IsWatch : ObservedView → (asked : Bool) → Option Watch → Type 0
IsWatch run false watch = watch ≡ None
IsWatch run true None = ⊥
IsWatch run true (Some w) = AreFigures run w.figures × (w.waits.items ≡ waits_of run)
    × (w.critical ≡ critical_of run)

-- What was watched is that of a run of a plan by `workers` workers: the times of its bodies, its
-- figures, as far as it is said what they are, its waits and its critical bodies.
pub record IsWatched (way : Way) (plan : Planned) (start : Start) (workers : ℕ)
    (w : WatchedView) : Type 0 where
  pub run : ObservedView
  pub is_run : IsRunOf way plan start workers run
  pub bodies : w.bodies ≡ run.times
  pub figures : AreFigures run w.figures
  pub waits : w.waits ≡ waits_of run
  pub critical : w.critical ≡ critical_of run

-- a run was watched where that is asked for, and else not
abbrev pub WasWatched : Way → Planned → Start → (workers : ℕ) → (asked : Bool)
    → Option WatchedView → Type 0
WasWatched way plan start workers false watched = watched ≡ None
WasWatched way plan start workers true None = ⊥
WasWatched way plan start workers true (Some w) = IsWatched way plan start workers w

-- of the suite that inputs are a run was watched, where that is asked for
abbrev pub WasWatchedOf : Inputs → Way → (asked : Bool) → Option WatchedView → Type 0
WasWatchedOf inputs way asked watched = OfSuite inputs
    (λ suite. WasWatched way (planned suite) suite.start suite.settings.worker_count asked watched)

-- Of the suite that inputs are all that is asked for was told besides, with some times of its
-- nodes, and with what was watched of a run, where a page is asked for.
abbrev pub TellsRun : Inputs → Way → (old new : Tells) → Type 0
TellsRun inputs way old new =
    (times : List (Option ℕ)) × (watched : Option WatchedView)
    × WasWatchedOf inputs way (is_some old.html) watched × TellsOf inputs times watched old new

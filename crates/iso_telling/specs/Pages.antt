-- The page of a run.
--
-- page that is told of a run: It has what was watched of the run, where it was: the times of its
-- bodies, its figures, waits and critical bodies (`WatchedView`, `measured`, `page_of`), and was
-- told where it is asked for (`IsPaged`, `AddsPage`); of a run that is so watched (`IsWatched`,
-- `WasWatched`, `TellsRun`). The lines that it shows of a node that failed: the one that is told of
-- it, with two before and two after it (`failed_line`, `around`, `excerpts`).
-- Also in: `Excerpts`, `Watches` of `iso_run`.
use Rattle.std.specs.Prelude.{◌≡◌, ℕ, List, Option, None, Some}
use Rattle.std.specs.Option.{option_map}
use Rattle.iso_critical.specs.declared.body.Body.{Body}
use Rattle.iso_html.specs.Commands.{commands_of}
use Rattle.iso_html.specs.Measured.{MeasuredView, measured_of}
use Rattle.iso_html.specs.Pages.{page_text}
use Rattle.iso_html.specs.Quotes.{LineView}
use Rattle.iso_junit.specs.Runs.{RunView}
use Rattle.iso_settings.specs.declared.settings.Settings.{Settings}
use Rattle.iso_stats.specs.declared.figures.Figures.{Figures}
use Rattle.iso_tap.specs.Sinks.{Wrote}
use Rattle.iso_telling.specs.declared.tells.PageText.{PageText}
use Rattle.iso_telling.specs.declared.watched.Watched.{Watched}
use Rattle.iso_times.specs.declared.times.BodyTime.{BodyTime}
use Rattle.iso_waits.specs.declared.wait.NodeWait.{NodeWait}

-- what was watched of a run: the times of its bodies, its figures, what its nodes waited for, and
-- which bodies were critical
pub record WatchedView : Type 0 where
  pub bodies : List (Option BodyTime)
  pub figures : Figures
  pub waits : List NodeWait
  pub critical : List Body

abbrev pub watched_of : Watched → WatchedView
watched_of w = record {
  bodies = w.times.now;
  figures = w.figures.now;
  waits = w.waits.now;
  critical = w.critical.now;
}

-- what the page shows of it
abbrev pub measured : RunView → WatchedView → MeasuredView
measured run w = measured_of run w.bodies w.figures w.waits w.critical

-- the page of a run under these settings with these lines of its scripts, of which this was
-- watched, where it was
abbrev pub page_of : RunView → Settings → List (List LineView) → Option WatchedView
    → PageText → List ℕ
page_of run settings lines watched asked =
    page_text run settings lines (commands_of asked.commands) (option_map (measured run) watched)

-- a text was added to a page, which is asked for as before
abbrev pub AddsPage : (text : List ℕ) → (old new : PageText) → Type 0
AddsPage text old new = (new ≡ record old { text = new.text }) × Wrote old.text new.text text

-- a page was told where one is asked for, and nothing where none is
abbrev pub IsPaged : (PageText → List ℕ) → (old new : Option PageText) → Type 0
IsPaged text_of None new = new ≡ None
IsPaged text_of (Some old) None = ⊥
IsPaged text_of (Some old) (Some new) = AddsPage (text_of old) old new

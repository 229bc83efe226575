-- What the page shows of what was measured of a run.
use Rattle.std.specs.Prelude.{List, Option}
use Rattle.iso_critical.specs.declared.body.Body.{Body}
use Rattle.iso_junit.specs.Runs.{RunView}
use Rattle.iso_stats.specs.declared.figures.Figures.{Figures}
use Rattle.iso_times.specs.declared.times.BodyTime.{BodyTime}
use Rattle.iso_waits.specs.declared.wait.NodeWait.{NodeWait}
use Rattle.iso_html.specs.KeyUses.{usages}
use Rattle.iso_html.specs.Pictures.{picture}
use Rattle.iso_html.specs.Slowest.{slowest}
use Rattle.iso_html.specs.declared.shape.Shape.{Shape}
use Rattle.iso_html.specs.declared.slowest.Timed.{Timed}
use Rattle.iso_html.specs.declared.usage.Usage.{Usage}

-- the figures, how the keys were used, the picture, and the slowest nodes
pub record MeasuredView : Type 0 where
  pub figures : Figures
  pub usages : List Usage
  pub shapes : List Shape
  pub slowest : List Timed

-- that of a run with these critical bodies; the picture is 1,000 pixels wide
abbrev pub measured_of : RunView → List (Option BodyTime) → Figures → List NodeWait
    → (critical : List Body) → MeasuredView
measured_of r bodies figures waits critical =
    record {
      figures = figures;
      usages = usages r.tree bodies waits;
      shapes =
          picture r bodies critical (usages r.tree bodies waits) 1000 figures.span figures.workers;
      slowest = slowest r.tree r.times;
    }

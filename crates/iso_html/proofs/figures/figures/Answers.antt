use Rattle.std.proofs.Common.{Ok, ap}
use Rattle.iso_html.specs.Figures.{best_text, workers_text}
use Rattle.iso_stats.specs.declared.figures.Figures.{Figures}
use Rattle.iso_tap.proofs.PrinterLemmas.{prints_as, prints_stopped, prints_then}
use Rattle.iso_html.proofs.figures.figures.Goals as goal

pub returns-in_err-workers-in-Some : goal.returns-in_err-workers-in-Some
returns-in_err-workers-in-Some g c =
    rw c.in-Some.is
    (prints_stopped (best_text c.in-Some.measured.now.figures.best) _ c.from_residual.ensures.0 (prints_as c.in_err-workers-in-Some.ensures _ (ap workers_text c.figures.ensures)))

pub returns-in_ok-workers-in-Some : goal.returns-in_ok-workers-in-Some
returns-in_ok-workers-in-Some g c =
    rw c.in-Some.is
    (prints_then _ (prints_as {r = Ok tt} c.in_ok-workers-in-Some.ensures _ (ap workers_text c.figures.ensures))
    (prints_as c.best.ensures _ (ap (λ (f : Figures). best_text f.best) c.figures-in-Some.ensures)))

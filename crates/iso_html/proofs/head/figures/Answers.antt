use Rattle.std.proofs.Common.{Ok, codes}
use Rattle.std.specs.Option.{option_map}
use Rattle.iso_html.specs.Figures.{measured_figures}
use Rattle.iso_html.specs.Heads.{classes_text}
use Rattle.iso_tap.proofs.PrinterLemmas.{prints_cut, prints_stopped, prints_then}
use Rattle.iso_html.proofs.head.figures.Goals as goal

pub returns-in_err-tests : goal.returns-in_err-tests
returns-in_err-tests g c =
    prints_stopped (codes "</ul>\n") _ c.from_residual.ensures.0
    (prints_cut (measured_figures (option_map (λ m. m.now) c.args.measured)) _ _ (prints_cut (classes_text c.args.counts.classes_not_ok) _ _ c.in_err-tests.ensures))

pub returns-in_err-classes : goal.returns-in_err-classes
returns-in_err-classes g c =
    prints_stopped (codes "</ul>\n") _ c.from_residual-in_err-classes.ensures.0
    (prints_cut (measured_figures (option_map (λ m. m.now) c.args.measured)) _ _ (prints_then _ c.in_ok-tests.ensures c.in_err-classes.ensures))

pub returns-in_err-figures : goal.returns-in_err-figures
returns-in_err-figures g c =
    prints_stopped (codes "</ul>\n") _ c.from_residual-in_err-figures.ensures.0 (prints_then _ (prints_then (Ok tt) c.in_ok-tests.ensures c.in_ok-classes.ensures) c.in_err-figures.ensures)

pub returns : goal.returns
returns g c =
    prints_then _ (prints_then (Ok tt) (prints_then (Ok tt) c.in_ok-tests.ensures c.in_ok-classes.ensures) c.in_ok-figures.ensures) c.bytes.ensures

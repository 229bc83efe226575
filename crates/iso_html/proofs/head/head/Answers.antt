use Rattle.std.proofs.Common.{Ok}
use Rattle.std.specs.Option.{option_map}
use Rattle.iso_html.specs.Heads.{figures_text, heading_text, title_text}
use Rattle.iso_html.specs.Styles.{style_text}
use Rattle.iso_tap.proofs.PrinterLemmas.{prints_cut, prints_stopped, prints_then}
use Rattle.iso_html.proofs.head.head.Goals as goal

pub returns-in_err-first_lines : goal.returns-in_err-first_lines
returns-in_err-first_lines g c =
    prints_stopped (figures_text c.args.counts (option_map (λ m. m.now) c.args.measured)) _ c.from_residual.ensures.0
    (prints_cut (heading_text c.args.ok c.args.counts) _ _ (prints_cut style_text _ _ (prints_cut (title_text c.args.ok c.args.counts) _ _ c.in_err-first_lines.ensures)))

pub returns-in_err-title : goal.returns-in_err-title
returns-in_err-title g c =
    prints_stopped (figures_text c.args.counts (option_map (λ m. m.now) c.args.measured)) _ c.from_residual-in_err-title.ensures.0
    (prints_cut (heading_text c.args.ok c.args.counts) _ _ (prints_cut style_text _ _ (prints_then _ c.in_ok-first_lines.ensures c.in_err-title.ensures)))

pub returns-in_err-style : goal.returns-in_err-style
returns-in_err-style g c =
    prints_stopped (figures_text c.args.counts (option_map (λ m. m.now) c.args.measured)) _ c.from_residual-in_err-style.ensures.0
    (prints_cut (heading_text c.args.ok c.args.counts) _ _ (prints_then _ (prints_then (Ok tt) c.in_ok-first_lines.ensures c.in_ok-title.ensures) c.in_err-style.ensures))

pub returns-in_err-heading : goal.returns-in_err-heading
returns-in_err-heading g c =
    prints_stopped (figures_text c.args.counts (option_map (λ m. m.now) c.args.measured)) _ c.from_residual-in_err-heading.ensures.0
    (prints_then _ (prints_then (Ok tt) (prints_then (Ok tt) c.in_ok-first_lines.ensures c.in_ok-title.ensures) c.in_ok-style.ensures) c.in_err-heading.ensures)

pub returns : goal.returns
returns g c =
    prints_then _ (prints_then (Ok tt) (prints_then (Ok tt) (prints_then (Ok tt) c.in_ok-first_lines.ensures c.in_ok-title.ensures) c.in_ok-style.ensures) c.in_ok-heading.ensures) c.figures.ensures

use Rattle.std.proofs.Common.{List, ℕ, Option, map, refl, ap, ap₂, subst, ◌∙◌}
use Rattle.iso_html.specs.Commands.{commands_of}
use Rattle.iso_html.specs.Measured.{MeasuredView}
use Rattle.iso_html.specs.Pages.{page_text}
use Rattle.iso_html.specs.Quotes.{LineView, excerpt_of}
use Rattle.iso_junit.specs.Runs.{run_of}
use Rattle.iso_tap.specs.Sinks.{Wrote}
use Rattle.iso_telling.proofs.page.add_page.Goals as goal

pub returns-in-Ok : goal.returns-in-Ok
returns-in-Ok c =
    let run = run_of c.args.run.now in
    let settings = c.args.run.now.plan.now.settings in
    let commands = commands_of c.args.page.now.commands in
    let lines = ap (map excerpt_of) c.deref.ensures.value ∙ c.in_ok-lines.ensures.lines in
    let seen = c.as_ref.ensures.value ∙ c.in_ok-measured.ensures in
    let text = ap₂ (λ (ls : List (List LineView)) (m : Option MeasuredView). page_text run settings ls commands m) lines seen in
    (refl, subst (λ (t : List ℕ). Wrote c.args.page.now.text c.write_html.new.sink t) text c.in-Ok.ensures.wrote)

use Rattle.std.proofs.Common.{Bool, Ok, ap₂, map}
use Rattle.std.specs.Option.{option_map}
use Rattle.iso_failures.specs.declared.counts.Counts.{Counts}
use Rattle.iso_html.specs.Commands.{commands_of}
use Rattle.iso_html.specs.Heads.{head_text}
use Rattle.iso_html.specs.Pages.{body_text}
use Rattle.iso_html.specs.Quotes.{excerpt_of}
use Rattle.iso_junit.specs.Runs.{run_of}
use Rattle.iso_tap.proofs.PrinterLemmas.{prints_as, prints_stopped, prints_then}
use Rattle.iso_html.proofs.page.page.Goals as goal

pub returns-in_err-head : goal.returns-in_err-head
returns-in_err-head g c =
    let measured = option_map (λ m. m.now) c.args.measured in
    let same = ap₂ (λ (ok : Bool) (counts : Counts). head_text ok counts measured) c.all_ok-ok.ensures c.count-counts.ensures in
    prints_stopped (body_text (run_of c.args.run.now) c.args.run.now.plan.now.settings (map excerpt_of c.args.quotes.now) (commands_of c.args.commands.now) measured) _ c.from_residual.ensures.0
    (prints_as c.in_err-head.ensures _ same)

pub returns : goal.returns
returns g c =
    let measured = option_map (λ m. m.now) c.args.measured in
    let same = ap₂ (λ (ok : Bool) (counts : Counts). head_text ok counts measured) c.all_ok-ok.ensures c.count-counts.ensures in
    prints_then _ (prints_as {r = Ok tt} c.in_ok-head.ensures _ same) c.body.ensures

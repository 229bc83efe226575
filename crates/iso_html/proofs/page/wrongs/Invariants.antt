use Rattle.std.proofs.Common.{Ok, map}
use Rattle.iso_failures.proofs.TextLemmas.{lines_below}
use Rattle.iso_failures.specs.Failures.{is_failure}
use Rattle.iso_html.specs.Commands.{commands_of}
use Rattle.iso_html.specs.Quotes.{excerpt_of}
use Rattle.iso_html.specs.Pages.{failure_text}
use Rattle.iso_junit.specs.Runs.{run_of}
use Rattle.iso_lifecycle.specs.ResultViews.{outcome_in}
use Rattle.iso_tap.specs.Printers.{Prints}
use Rattle.iso_html.proofs.page.wrongs.Given as goal

abbrev pub invariant-nodes : goal.invariant-nodes
invariant-nodes g l =
    Prints l.fn.printer l.printer (lines_below (failure_text (run_of l.run) (map excerpt_of l.quotes) (commands_of l.commands)) (is_failure (outcome_in l.run.results.now)) l.node) (Ok tt)

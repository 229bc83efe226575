use Rattle.std.proofs.Common.{Ok, ◌++◌}
use Rattle.iso_failures.proofs.TextLemmas.{lines_below}
use Rattle.iso_junit.specs.Cases.{all_cases, is_suite}
use Rattle.iso_junit.specs.Documents.{document_head, suite_text}
use Rattle.iso_junit.specs.Runs.{run_of}
use Rattle.iso_junit.specs.Tallies.{tally}
use Rattle.iso_tap.specs.Printers.{Prints}
use Rattle.iso_junit.proofs.junit.document.Given as goal

abbrev pub invariant-nodes : goal.invariant-nodes
invariant-nodes g l =
    Prints l.fn.printer l.printer
    (document_head (tally (run_of l.run) (all_cases (run_of l.run))) ++ lines_below (suite_text (run_of l.run)) (is_suite (run_of l.run)) l.node)
    (Ok tt)

use Rattle.std.proofs.Common.{drop, filter, flat_map}
use Rattle.iso_junit.specs.Cases.{cases, is_a_test}
use Rattle.iso_junit.specs.Documents.{case_text}
use Rattle.iso_junit.specs.Runs.{run_of}
use Rattle.iso_tap.proofs.PrinterLemmas.{LeftToPrint}
use Rattle.iso_junit.proofs.suite.cases.Given as goal

abbrev pub invariant-children : goal.invariant-children
invariant-children g l =
    LeftToPrint l.fn.printer l.printer
    (flat_map (case_text (run_of l.run) l.class) (cases (run_of l.run) l.class))
    (flat_map (case_text (run_of l.run) l.class) (filter (is_a_test (run_of l.run)) (drop l.child-index l.child-items)))

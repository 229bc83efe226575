use Rattle.std.proofs.Common.{map}
use Rattle.iso_github.specs.Errors.{errors_from, errors_text}
use Rattle.iso_junit.specs.Runs.{placed_of}
use Rattle.iso_lifecycle.specs.ResultViews.{outcome_in}
use Rattle.iso_plan.specs.RowView.{tree_of}
use Rattle.iso_tap.proofs.PrinterLemmas.{LeftToPrint}
use Rattle.iso_github.proofs.errors.errors.Given as goal

abbrev pub invariant-nodes : goal.invariant-nodes
invariant-nodes g l =
    LeftToPrint l.fn.printer l.printer
    (errors_text (tree_of l.plan) (outcome_in l.results) (map placed_of l.places))
    (errors_from (tree_of l.plan) (outcome_in l.results) (map placed_of l.places) l.node)

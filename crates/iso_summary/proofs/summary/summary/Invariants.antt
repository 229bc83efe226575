use Rattle.std.proofs.Common.{◌++◌, drop, map}
use Rattle.iso_failures.specs.Counting.{counts}
use Rattle.iso_lifecycle.specs.ResultViews.{outcome_in}
use Rattle.iso_plan.specs.RowView.{tree_of}
use Rattle.iso_summary.specs.Summaries.{counts_line, entries_text, summary_text}
use Rattle.iso_summary.specs.Views.{again_of, located_of}
use Rattle.iso_tap.proofs.PrinterLemmas.{LeftToPrint}
use Rattle.iso_summary.proofs.summary.summary.Given as goal

abbrev pub invariant-nodes : goal.invariant-nodes
invariant-nodes g l =
    LeftToPrint l.fn.printer l.printer
    (summary_text (tree_of l.plan) (outcome_in l.results) (again_of l.again) l.nodes (map located_of l.places))
    (entries_text (tree_of l.plan) (outcome_in l.results) (again_of l.again) (drop l.i l.nodes) (map located_of (drop l.i l.places))
    ++ counts_line (counts (tree_of l.plan) (outcome_in l.results)))

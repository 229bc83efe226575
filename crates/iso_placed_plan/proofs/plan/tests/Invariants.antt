use Rattle.std.proofs.Common.{◌-◌, length}
use Rattle.iso_placed_plan.specs.PlacedPlan.{each_node, placed_test_line, placed_tests_text}
use Rattle.iso_plan.specs.RowView.{tree_of}
use Rattle.iso_plan.specs.KeptNodes.{texts_of}
use Rattle.iso_tap.proofs.PrinterLemmas.{LeftToPrint}
use Rattle.iso_placed_plan.proofs.plan.tests.Given as goal

abbrev pub invariant-nodes : goal.invariant-nodes
invariant-nodes g l =
    LeftToPrint l.fn.printer l.printer
    (placed_tests_text (tree_of l.plan) l.plan.settings l.sites (texts_of l.names))
    (each_node (placed_test_line (tree_of l.plan) l.plan.settings l.sites (texts_of l.names)) (length l.plan.rows - l.node) l.node)

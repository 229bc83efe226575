use Rattle.std.proofs.Common.{◌-◌, length}
use Rattle.iso_plan.specs.RowView.{tree_of}
use Rattle.iso_tap.specs.PlanText.{test_lines, tests_text}
use Rattle.iso_tap.proofs.PrinterLemmas.{LeftToPrint}
use Rattle.iso_tap.proofs.printer.Printer.tests.Given as goal

abbrev pub invariant-nodes : goal.invariant-nodes
invariant-nodes g l =
    LeftToPrint l.fn.self l.self (tests_text (tree_of l.plan) l.plan.settings)
    (test_lines (tree_of l.plan) l.plan.settings (length l.plan.rows - l.node) l.node)

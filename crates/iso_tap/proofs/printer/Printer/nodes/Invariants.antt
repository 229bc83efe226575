use Rattle.std.proofs.Common.{◌-◌, length}
use Rattle.iso_plan.specs.RowView.{tree_of}
use Rattle.iso_tap.specs.PlanText.{node_lines}
use Rattle.iso_tap.proofs.PrinterLemmas.{LeftToPrint}
use Rattle.iso_tap.proofs.printer.Printer.nodes.Given as goal

abbrev pub invariant-nodes : goal.invariant-nodes
invariant-nodes g l =
    LeftToPrint l.fn.self l.self (node_lines (tree_of l.plan) l.plan.settings (length l.plan.rows - 1) 1)
    (node_lines (tree_of l.plan) l.plan.settings (length l.plan.rows - l.node) l.node)

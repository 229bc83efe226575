use Rattle.std.proofs.Common.{◌-◌, length}
use Rattle.iso_placed_plan.specs.PlacedPlan.{each_node}
use Rattle.iso_plan.specs.RowView.{tree_of}
use Rattle.iso_plan.specs.KeptNodes.{texts_of}
use Rattle.iso_tap.proofs.PrinterLemmas.{LeftToPrint}
use Rattle.iso_why.specs.PlanWhy.{node_why}
use Rattle.iso_why.proofs.plan.nodes_why.Given as goal

abbrev pub invariant-nodes : goal.invariant-nodes
invariant-nodes g l =
    LeftToPrint l.fn.printer l.printer (each_node (node_why (tree_of l.plan) l.plan.settings l.sites (texts_of l.names)) (length l.plan.rows - 1) 1)
    (each_node (node_why (tree_of l.plan) l.plan.settings l.sites (texts_of l.names)) (length l.plan.rows - l.node) l.node)

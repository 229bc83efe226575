use Rattle.std.proofs.Common.{◌+◌, ◌-◌, ◌*◌, ◌++◌, codes, drop, flat_map, length}
use Rattle.iso_html.specs.Trees.{list_text, node_text}
use Rattle.iso_junit.specs.Runs.{run_of}
use Rattle.iso_plan.specs.Paths.{children}
use Rattle.iso_plan.specs.RowView.{tree_of}
use Rattle.iso_tap.proofs.PrinterLemmas.{LeftToPrint}
use Rattle.iso_html.proofs.tree.+lists.Given as goal

abbrev pub decreases-list : goal.decreases-list
decreases-list g l = 3 * (length l.run.now.plan.now.rows - l.node)

abbrev pub decreases-tree_node : goal.decreases-tree_node
decreases-tree_node g l = 3 * (length l.run.now.plan.now.rows - l.node) + 2

abbrev pub decreases-inside : goal.decreases-inside
decreases-inside g l = 3 * (length l.run.now.plan.now.rows - l.node) + 1

abbrev pub invariant-list-children : goal.invariant-list-children
invariant-list-children g l =
    LeftToPrint l.fn.printer l.printer
    (list_text (node_text (run_of l.run) l.run.plan.now.settings) (children (tree_of l.run.plan.now) l.node))
    (flat_map (node_text (run_of l.run) l.run.plan.now.settings) (drop l.child-index l.child-items) ++ codes "</ul>\n")

use Rattle.std.proofs.Common.{map}
use Rattle.iso_affected_text.proofs.RowLemmas.{begun, node-more}
use Rattle.iso_affected_text.specs.Changes.{change_of}
use Rattle.iso_affected_text.specs.Rows.{row_of}
use Rattle.iso_affected_text.proofs.rows.add_nodes.Goals as goal

pub nodes-init : goal.nodes-init
nodes-init c = begun (change_of c.args.change.now) (map row_of c.args.rows.now.items) c.nodes_are_a_tree.ensures.root_is

pub nodes-preserved : goal.nodes-preserved
nodes-preserved c = node-more (change_of c.args.change.now) _ _ _ c.nodes.node c.nodes.invariant c.in_ok-add_node.ensures

use Rattle.iso_affected_text.proofs.RowLemmas.{gone-more}
use Rattle.iso_affected_text.specs.Affected.{gone_rows}
use Rattle.iso_affected_text.specs.Changes.{change_of}
use Rattle.iso_affected_text.proofs.rows.add_gone.Goals as goal

pub nodes-preserved : goal.nodes-preserved
nodes-preserved c =
    gone-more (gone_rows (change_of c.args.change.now)) _ _ _ c.args.change.now.gone.now c.nodes.node-index c.nodes-test.true c.nodes.invariant c.in_ok-add_gone_node.ensures

use Rattle.std.proofs.Common.{ap, refl}
use Rattle.iso_tap.proofs.PrinterLemmas.{prints_as}
use Rattle.iso_plan.specs.RowView.{tree_of}
use Rattle.iso_explain_plan.specs.Reasons.{no_node_note, no_node_of_note}
use Rattle.iso_explain_plan.proofs.reason.no_node.Goals as goal

pub returns : goal.returns
returns g c =
    prints_as c.no_node_of.ensures (no_node_note (tree_of c.args.plan.now) c.args.node)
    (ap (no_node_of_note c.args.node) (rw c.saturating_sub.ensures (rw c.len.ensures refl)))

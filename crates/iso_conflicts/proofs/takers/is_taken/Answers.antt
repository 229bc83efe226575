use Rattle.std.proofs.Common.{◌<◌, length, sym, ◌∙◌, arith}
use Rattle.iso_conflicts.proofs.RangeLemmas.{any-passed}
use Rattle.iso_conflicts.specs.Takers.{takes}
use Rattle.iso_plan.specs.RowView.{tree_of}
use Rattle.iso_conflicts.proofs.takers.is_taken.Goals as goal

pub nodes-preserved : goal.nodes-preserved
nodes-preserved c =
    let plan = c.args.plan.now in
    let here : c.nodes.node < length plan.rows = omega arith in
    any-passed (takes (tree_of plan) c.args.access c.args.key) (length plan.rows) c.nodes.node here (sym c.takes.ensures ∙ c.if-takes.false)
    ∙ c.nodes.invariant

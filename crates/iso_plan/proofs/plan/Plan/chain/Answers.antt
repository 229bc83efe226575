use Rattle.std.proofs.Common.{[], ◌<◌, length, map, ap, ◌∙◌, arith}
use Rattle.iso_model.specs.ChainView.{innermost_first}
use Rattle.iso_plan.proofs.ColumnLemmas.{view-read, within-views}
use Rattle.iso_plan.specs.NodeChains.{chain_classes}
use Rattle.iso_plan.specs.Planned.{Planned}
use Rattle.iso_plan.specs.RowView.{heads_in, row_of, tree_of}
use Rattle.iso_plan.proofs.plan.Plan.chain.Goals as goal

pub index-requires-2 : goal.index-requires-2
index-requires-2 c =
    let v = c.self.inside.chains in
    let tree = map row_of c.self.inside.rows.items in
    let here : c.args.node < length tree = rw (ap tree_of c.self.view_is) c.requires in
    let inside = within-views heads_in (chain_classes tree) v.items (length tree) c.args.node c.self.invariant.heads_are here in
    omega (arith, v.ok.0)

pub returns-clause-classes : goal.returns-clause-classes
returns-clause-classes c =
    let v = c.self.inside.chains in
    let tree = map row_of c.self.inside.rows.items in
    let here : c.args.node < length tree = rw (ap tree_of c.self.view_is) c.requires in
    ap innermost_first (c.deref-3.ensures.value ∙ (λ i. (c.deref-2.ensures i).items)) ∙ ap heads_in c.index-2.ensures
    ∙ view-read heads_in (chain_classes tree) v.items (length tree) c.args.node c.index-2.result.now [] c.self.invariant.heads_are here
    ∙ ap (λ (p : Planned). chain_classes (tree_of p) c.args.node) c.self.view_is

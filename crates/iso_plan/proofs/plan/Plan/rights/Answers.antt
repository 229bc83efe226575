use Rattle.std.proofs.Common.{◌<◌, length, map, None, ap, ◌∙◌, arith}
use Rattle.iso_model.specs.Rights as R
use Rattle.iso_model.specs.Rights.{access_in}
use Rattle.iso_plan.proofs.ColumnLemmas.{view-read, within-views}
use Rattle.iso_plan.specs.NodeChains.{node_rights}
use Rattle.iso_plan.specs.Planned.{Planned}
use Rattle.iso_plan.specs.RowView.{rights_in, row_of, tree_of}
use Rattle.iso_plan.proofs.plan.Plan.rights.Goals as goal

pub index-requires : goal.index-requires
index-requires c =
    let v = c.self.inside.rights in
    let tree = map row_of c.self.inside.rows.items in
    let here : c.args.node < length tree = rw (ap tree_of c.self.view_is) c.requires in
    let inside = within-views rights_in (node_rights tree) v.items (length tree) c.args.node c.self.invariant.rights_are here in
    omega (arith, v.ok.0)

pub returns : goal.returns
returns c =
    let v = c.self.inside.rights in
    let tree = map row_of c.self.inside.rows.items in
    let here : c.args.node < length tree = rw (ap tree_of c.self.view_is) c.requires in
    let nothing : R.Rights = λ k. None in
    ap access_in c.deref.ensures ∙ ap rights_in c.index.ensures
    ∙ view-read rights_in (node_rights tree) v.items (length tree) c.args.node c.index.result.now nothing c.self.invariant.rights_are here
    ∙ ap (λ (p : Planned). node_rights (tree_of p) c.args.node) c.self.view_is

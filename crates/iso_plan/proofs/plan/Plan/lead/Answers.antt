use Rattle.std.proofs.Common.{◌<◌, map, length, ap, ◌∙◌, arith}
use Rattle.iso_plan.proofs.ColumnLemmas.{column-read, within-column}
use Rattle.iso_plan.specs.KeyGroups.{lead}
use Rattle.iso_plan.specs.KeyTable.{keys}
use Rattle.iso_plan.specs.Planned.{Planned}
use Rattle.iso_plan.specs.RowView.{row_of, tree_of}
use Rattle.iso_plan.proofs.plan.Plan.lead.Goals as goal

pub index-requires : goal.index-requires
index-requires c =
    let v = c.self.inside.leads in
    let tree = map row_of c.self.inside.rows.items in
    let here : c.args.key < length (keys tree) = rw (ap tree_of c.self.view_is) c.requires in
    let inside = within-column (lead tree) v.items (length (keys tree)) c.args.key c.self.invariant.leads_are here in
    omega (arith, v.ok.0)

pub returns : goal.returns
returns c =
    let v = c.self.inside.leads in
    let tree = map row_of c.self.inside.rows.items in
    let here : c.args.key < length (keys tree) = rw (ap tree_of c.self.view_is) c.requires in
    c.index.ensures ∙ column-read (lead tree) v.items (length (keys tree)) c.args.key c.index.result.now c.self.invariant.leads_are here
    ∙ ap (λ (p : Planned). lead (tree_of p) c.args.key) c.self.view_is

use Rattle.std.proofs.Common.{◌<◌, map, length, ap, ◌∙◌, arith}
use Rattle.iso_plan.proofs.ColumnLemmas.{column-read, within-column}
use Rattle.iso_plan.specs.Modes.{mode}
use Rattle.iso_plan.specs.Planned.{Planned}
use Rattle.iso_plan.specs.RowView.{row_of, tree_of}
use Rattle.iso_plan.proofs.plan.Plan.mode.Goals as goal

pub index-requires : goal.index-requires
index-requires c =
    let v = c.self.inside.modes in
    let tree = map row_of c.self.inside.rows.items in
    let here : c.args.node < length tree = rw (ap tree_of c.self.view_is) c.requires in
    let inside = within-column (mode tree c.self.inside.settings) v.items (length tree) c.args.node c.self.invariant.modes_are here in
    omega (arith, v.ok.0)

pub returns : goal.returns
returns c =
    let v = c.self.inside.modes in
    let tree = map row_of c.self.inside.rows.items in
    let here : c.args.node < length tree = rw (ap tree_of c.self.view_is) c.requires in
    c.index.ensures ∙ column-read (mode tree c.self.inside.settings) v.items (length tree) c.args.node c.index.result.now c.self.invariant.modes_are here
    ∙ ap (λ (p : Planned). mode (tree_of p) p.settings c.args.node) c.self.view_is

use Rattle.std.proofs.Common.{[], ℕ, ◌<◌, List, length, map, ap, ◌∙◌, arith}
use Rattle.std.specs.declared.alloc.Global.{Global}
use Rattle.std.specs.declared.vec.Vec.{Vec}
use Rattle.iso_plan.proofs.ColumnLemmas.{view-read, within-views}
use Rattle.iso_plan.specs.Paths.{children}
use Rattle.iso_plan.specs.Planned.{Planned}
use Rattle.iso_plan.specs.RowView.{row_of, tree_of}
use Rattle.iso_plan.proofs.plan.Plan.children.Goals as goal

abbrev numbers : Vec ℕ Global → List ℕ
numbers v = v.items

pub index-requires : goal.index-requires
index-requires c =
    let v = c.self.inside.children in
    let tree = map row_of c.self.inside.rows.items in
    let here : c.args.node < length tree = rw (ap tree_of c.self.view_is) c.requires in
    let inside = within-views numbers (children tree) v.items (length tree) c.args.node c.self.invariant.kids_are here in
    omega (arith, v.ok.0)

pub returns : goal.returns
returns c =
    let v = c.self.inside.children in
    let tree = map row_of c.self.inside.rows.items in
    let here : c.args.node < length tree = rw (ap tree_of c.self.view_is) c.requires in
    c.deref.ensures.value ∙ ap numbers c.index.ensures
    ∙ view-read numbers (children tree) v.items (length tree) c.args.node c.index.result.now [] c.self.invariant.kids_are here
    ∙ ap (λ (p : Planned). children (tree_of p) c.args.node) c.self.view_is

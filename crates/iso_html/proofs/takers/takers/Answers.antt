use Rattle.std.proofs.Common.{◌≡◌, ℕ, length, map, ap, ◌∙◌, arith}
use Rattle.iso_html.proofs.ListLemmas.{column-grown}
use Rattle.iso_html.specs.Bars.{takers_below}
use Rattle.iso_plan.specs.KeyTable.{keys}
use Rattle.iso_plan.specs.Paths.{column}
use Rattle.iso_plan.specs.RowView.{tree_of}
use Rattle.iso_html.proofs.takers.takers.Goals as goal

pub returns : goal.returns
returns c =
    let tree = tree_of c.args.plan.now in
    let count = length (keys tree) in
    let last : c.nodes.node ≡ length c.args.plan.now.rows = omega arith in
    column-grown (map (λ v. v.items) c.nodes.takers.items) count (λ key. takers_below tree c.args.times.now key c.nodes.node) c.nodes.invariant
    ∙ ap (λ (n : ℕ). column (λ key. takers_below tree c.args.times.now key n) count) last

use Rattle.std.proofs.Common.{[], length, map}
use Rattle.iso_html.specs.Bars.{takers_below}
use Rattle.iso_html.specs.Lists.{AreLonger}
use Rattle.iso_plan.specs.KeyTable.{keys}
use Rattle.iso_plan.specs.Paths.{column}
use Rattle.iso_plan.specs.RowView.{tree_of}
use Rattle.iso_html.proofs.takers.takers.Given as goal

abbrev pub invariant-nodes : goal.invariant-nodes
invariant-nodes l =
    AreLonger (column (λ k. []) (length (keys (tree_of l.plan)))) (map (λ v. v.items) l.takers.items) (λ key. takers_below (tree_of l.plan) l.times key l.node)

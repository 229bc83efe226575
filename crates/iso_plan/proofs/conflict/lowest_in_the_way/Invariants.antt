use Rattle.std.proofs.Common.{◌≡◌, None}
use Rattle.iso_plan.specs.Conflicts.{is_in_the_way, lowest}
use Rattle.iso_plan.specs.RowView.{tree_of}
use Rattle.iso_plan.proofs.conflict.lowest_in_the_way.Given as goal

abbrev pub invariant-nodes : goal.invariant-nodes
invariant-nodes g l = lowest (is_in_the_way (tree_of l.plan) (g.H.Holders.held l.holders) l.node) l.m ≡ None

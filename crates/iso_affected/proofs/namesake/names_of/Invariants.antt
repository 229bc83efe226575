use Rattle.std.proofs.Common.{drop}
use Rattle.iso_affected.specs.NameTables.{FindsNamed}
use Rattle.iso_plan.specs.RowView.{tree_of}
use Rattle.iso_affected.proofs.namesake.names_of.Given as goal

abbrev pub invariant-nodes : goal.invariant-nodes
invariant-nodes l = FindsNamed (tree_of l.plan) (drop l.place l.nodes) l.table

use Rattle.iso_affected.proofs.NameTableLemmas.{FindBelow}
use Rattle.iso_plan.specs.RowView.{tree_of}
use Rattle.iso_affected.proofs.namesake.names.Given as goal

abbrev pub invariant-classes : goal.invariant-classes
invariant-classes l = FindBelow (tree_of l.plan) l.tables.items l.class

use Rattle.std.proofs.Common.{◌≡◌, map}
use Rattle.iso_plan.specs.Paths.{column}
use Rattle.iso_plan.specs.RowView.{row_of}
use Rattle.iso_plan.specs.TopClasses.{top_class}
use Rattle.iso_plan.proofs.overview.top_classes.Given as goal

abbrev pub invariant-nodes : goal.invariant-nodes
invariant-nodes l = l.classes.items ≡ column (top_class (map row_of l.rows)) l.n

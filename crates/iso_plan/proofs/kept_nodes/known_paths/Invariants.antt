use Rattle.std.proofs.Common.{◌-◌, map}
use Rattle.std.specs.List.{range_with_len}
use Rattle.iso_model.specs.NameSets.{Knows}
use Rattle.iso_plan.specs.PathTexts.{path_text}
use Rattle.iso_plan.specs.RowView.{row_of}
use Rattle.iso_plan.proofs.kept_nodes.known_paths.Given as goal

abbrev pub invariant-nodes : goal.invariant-nodes
invariant-nodes l = Knows l.known (map (path_text (map row_of l.rows)) (range_with_len 1 (l.n - 1)))

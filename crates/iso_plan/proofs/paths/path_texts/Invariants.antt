use Rattle.std.proofs.Common.{◌≡◌, map}
use Rattle.iso_plan.specs.Paths.{column}
use Rattle.iso_plan.specs.PathTexts.{path_text}
use Rattle.iso_plan.specs.RowView.{row_of}
use Rattle.iso_plan.proofs.paths.path_texts.Given as goal

abbrev pub invariant-nodes : goal.invariant-nodes
invariant-nodes l = l.paths.items ≡ column (path_text (map row_of l.rows)) l.n

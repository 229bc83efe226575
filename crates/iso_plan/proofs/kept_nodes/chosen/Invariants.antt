use Rattle.std.proofs.Common.{◌≡◌, map}
use Rattle.iso_plan.specs.Paths.{column}
use Rattle.iso_plan.specs.RowView.{row_of}
use Rattle.iso_plan.specs.KeptNodes.{is_chosen, texts_of}
use Rattle.iso_plan.proofs.kept_nodes.chosen.Given as goal

abbrev pub invariant-nodes : goal.invariant-nodes
invariant-nodes l = l.chosen.items ≡ column (is_chosen (map row_of l.rows) (texts_of l.only)) l.n

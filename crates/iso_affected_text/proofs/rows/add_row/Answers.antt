use Rattle.std.proofs.Common.{ap}
use Rattle.iso_affected_text.proofs.RowLemmas.{pushed}
use Rattle.iso_affected_text.specs.Rows.{node_row}
use Rattle.iso_affected_text.proofs.rows.add_row.Goals as goal

pub returns : goal.returns
returns c = pushed _ _ _ _ c.in_ok-push.ensures.items (ap (node_row c.args.became) c.path_at-path.ensures)

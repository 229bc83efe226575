use Rattle.std.proofs.Common.{length, map, ap, ◌∙◌}
use Rattle.iso_plan.proofs.ColumnLemmas.{length-column}
use Rattle.iso_plan.specs.RowView.{row_of}
use Rattle.iso_plan.specs.KeptNodes.{is_chosen, texts_of}
use Rattle.iso_plan.proofs.kept_nodes.kept_by.Goals as goal

pub kept-requires-clause-each : goal.kept-requires-clause-each
kept-requires-clause-each c =
    let rows = c.args.rows.now in
    ap length (c.deref-3.ensures.value ∙ c.in_ok-chosen.ensures) ∙ length-column (is_chosen (map row_of rows) (texts_of c.args.only.now)) (length rows)

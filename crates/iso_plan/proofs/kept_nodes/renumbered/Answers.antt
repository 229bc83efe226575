use Rattle.std.proofs.Common.{length}
use Rattle.iso_plan.proofs.ColumnLemmas.{column-read}
use Rattle.iso_plan.specs.RowView.{row_of}
use Rattle.iso_plan.specs.KeptNodes.{number_among}
use Rattle.iso_plan.proofs.kept_nodes.renumbered.Goals as goal

pub returns : goal.returns
returns c = λ passes e i. record (row_of c.args.row) { parent = column-read (number_among passes) c.args.numbers.now (length c.args.numbers.now) c.args.row.parent 0 e c.requires i }

use Rattle.std.proofs.Common.{rules}
use Rattle.iso_model.proofs.SameLemmas.{same_here}
use Rattle.iso_plan.specs.RowView.{row_of}
use Rattle.iso_plan.proofs.same.same_rows.Goals as goal

pub returns-then-not-same_row : goal.returns-then-not-same_row
returns-then-not-same_row c =
    let here = same_here row_of c.args.a.now c.args.b.now c.rows.i c.index-a-i.result c.index-b-i.result c.if-a-b.false c.rows-test.true c.index-a-i.is c.index-b-i.is in
    search (rules, here)

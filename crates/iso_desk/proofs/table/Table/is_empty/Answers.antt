use Rattle.std.proofs.Common.{is_some}
use Rattle.iso_desk.specs.Places.{IsEmpty}
use Rattle.iso_desk.proofs.CrewLemmas.{empty_by, of_not}
use Rattle.iso_desk.proofs.table.Table.is_empty.Goals as goal

pub returns : goal.returns
returns c = of_not (IsEmpty c.args.self.now.places c.args.line) c.is_none.result (is_some c.first.result) c.is_none.ensures (empty_by c.args.self.now.places c.args.line c.first.result c.first.ensures)

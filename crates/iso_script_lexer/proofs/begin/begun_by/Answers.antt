use Rattle.std.proofs.Common.{arith}
use Rattle.iso_script_lexer.proofs.Begins.{table_of_begun}
use Rattle.iso_script_lexer.proofs.begin.begun_by.Goals as goal

pub returns : goal.returns
returns c = rw c.from.ensures (table_of_begun c.args.byte (omega arith))

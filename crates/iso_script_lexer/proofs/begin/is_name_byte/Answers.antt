use Rattle.std.proofs.Common.{arith}
use Rattle.iso_script_lexer.proofs.Begins.{table_of_names}
use Rattle.iso_script_lexer.proofs.begin.is_name_byte.Goals as goal

pub returns : goal.returns
returns c = rw c.from.ensures (table_of_names c.args.byte (omega arith))

use Rattle.iso_script_statements.proofs.Unique.{one_block}
use Rattle.iso_script_statements.proofs.laws.blocks_are_unique.Goals as goal

pub returns : goal.returns
returns c = λ a b ps qs rs h k. one_block h k

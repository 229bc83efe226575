use Rattle.iso_model.proofs.SameLemmas.{blocks_same}
use Rattle.iso_model.proofs.same.statements.same_block.Goals as goal

pub returns : goal.returns
returns c = blocks_same c.same_stmts.ensures

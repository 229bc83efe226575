use Rattle.iso_explain_block.proofs.FewLemmas.{hints-few}
use Rattle.iso_explain_block.proofs.laws.hints_are_few.Goals as goal

pub returns : goal.returns
returns c = hints-few

use Rattle.iso_model.proofs.LawLemmas.{block-within_steps}
use Rattle.iso_model.proofs.laws.block_ends_within_its_steps.Goals as goal

pub returns : goal.returns
returns c = block-within_steps

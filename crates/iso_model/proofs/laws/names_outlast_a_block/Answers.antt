use Rattle.iso_model.proofs.LastingNames.{block-length, block-lasts}
use Rattle.iso_model.proofs.laws.names_outlast_a_block.Goals as goal

pub returns-clause-count : goal.returns-clause-count
returns-clause-count c = block-length

pub returns-clause-lasting : goal.returns-clause-lasting
returns-clause-lasting c = block-lasts

use Rattle.iso_script.proofs.Blocks.{one_blocks}
use Rattle.iso_script.proofs.laws.blocks_are_unique.Goals as goal

pub returns : goal.returns
returns c = one_blocks

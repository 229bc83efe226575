use Rattle.std.proofs.Common.{refl}
use Rattle.iso_explain_block.specs.BlockFaults.{hints}
use Rattle.iso_explain_block.specs.Lines.{with_line}
use Rattle.iso_explain_block.specs.Operations.{chain_lines, pair_lines, single_lines}
use Rattle.iso_explain_block.specs.Rules.{act_rule}
use Rattle.iso_explain_block.specs.Statements.{plain_pair_lines, plain_single_lines}
use Rattle.iso_explain_block.proofs.examples.operations_of_the_row_are_told.Goals as goal

pub returns : goal.returns
unfolding hints with_line plain_single_lines single_lines plain_pair_lines pair_lines chain_lines act_rule
returns c = refl

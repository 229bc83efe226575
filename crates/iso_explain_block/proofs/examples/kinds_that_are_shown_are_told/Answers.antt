use Rattle.std.proofs.Common.{refl}
use Rattle.iso_explain_block.specs.BlockFaults.{hints}
use Rattle.iso_explain_block.specs.Lines.{with_line}
use Rattle.iso_explain_block.specs.Operations.{chain_lines, pair_lines}
use Rattle.iso_explain_block.specs.Rules.{act_rule}
use Rattle.iso_explain_block.specs.Statements.{plain_pair_lines}
use Rattle.iso_explain_block.proofs.examples.kinds_that_are_shown_are_told.Goals as goal

pub returns-clause-both : goal.returns-clause-both
unfolding hints with_line plain_pair_lines pair_lines chain_lines act_rule
returns-clause-both c = refl

pub returns-clause-one : goal.returns-clause-one
unfolding hints with_line plain_pair_lines pair_lines chain_lines act_rule
returns-clause-one c = refl

pub returns-clause-none : goal.returns-clause-none
unfolding hints with_line plain_pair_lines pair_lines chain_lines act_rule
returns-clause-none c = refl

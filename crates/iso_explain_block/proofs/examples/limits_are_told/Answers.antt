use Rattle.std.proofs.Common.{refl}
use Rattle.iso_explain_block.specs.BlockFaults.{hints}
use Rattle.iso_explain_block.specs.Fixed.{kind_rules, with_rule}
use Rattle.iso_explain_block.specs.Lines.{with_line}
use Rattle.iso_explain_block.specs.Missing.{chain_names}
use Rattle.iso_explain_block.specs.Unknown.{nearest_of}
use Rattle.iso_explain_block.proofs.examples.limits_are_told.Goals as goal

pub returns-clause-steps : goal.returns-clause-steps
unfolding hints with_line kind_rules with_rule
returns-clause-steps c = refl

pub returns-clause-frozen : goal.returns-clause-frozen
unfolding hints with_line kind_rules with_rule
returns-clause-frozen c = refl

pub returns-clause-file : goal.returns-clause-file
unfolding hints with_line kind_rules with_rule chain_names nearest_of
returns-clause-file c = refl

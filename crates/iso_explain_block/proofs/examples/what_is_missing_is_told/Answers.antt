use Rattle.std.proofs.Common.{refl}
use Rattle.std.specs.Str.{chars}
use Rattle.iso_explain_block.specs.BlockFaults.{hints}
use Rattle.iso_explain_block.specs.Fixed.{kind_rules, with_rule}
use Rattle.iso_explain_block.specs.Lines.{with_line}
use Rattle.iso_explain_block.specs.Missing.{chain_names}
use Rattle.iso_explain_block.specs.Unknown.{nearest_of}
use Rattle.strsim.specs.Edits.{cost_at, osa_from, osa_row}
use Rattle.iso_explain_block.proofs.examples.what_is_missing_is_told.Goals as goal

pub returns-clause-property : goal.returns-clause-property
unfolding hints kind_rules with_rule with_line chain_names nearest_of chars cost_at osa_from osa_row
returns-clause-property c = refl

pub returns-clause-file : goal.returns-clause-file
unfolding hints kind_rules with_rule with_line chain_names nearest_of chars cost_at osa_from osa_row
returns-clause-file c = refl

pub returns-clause-given_elsewhere : goal.returns-clause-given_elsewhere
unfolding hints kind_rules with_rule with_line chain_names nearest_of chars cost_at osa_from osa_row
returns-clause-given_elsewhere c = refl

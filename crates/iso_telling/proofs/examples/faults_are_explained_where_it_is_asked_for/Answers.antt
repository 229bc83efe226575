use Rattle.std.proofs.Common.{refl}
use Rattle.iso_explain_block.specs.BlockFaults.{hints}
use Rattle.iso_explain_block.specs.Fixed.{kind_rules, with_rule}
use Rattle.iso_explain_block.specs.Lines.{with_line}
use Rattle.iso_telling.proofs.examples.faults_are_explained_where_it_is_asked_for.Goals as goal

pub returns-clause-asked : goal.returns-clause-asked
unfolding hints kind_rules with_rule with_line
returns-clause-asked c = refl

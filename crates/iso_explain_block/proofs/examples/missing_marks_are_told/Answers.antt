use Rattle.std.proofs.Common.{refl}
use Rattle.iso_explain_block.specs.BlockFaults.{hints}
use Rattle.iso_explain_block.specs.Lines.{with_line}
use Rattle.iso_explain_block.specs.Marks.{mark_text}
use Rattle.iso_explain_block.proofs.examples.missing_marks_are_told.Goals as goal

pub returns-clause-in_test : goal.returns-clause-in_test
unfolding hints with_line mark_text
returns-clause-in_test c = refl

pub returns-clause-in_class : goal.returns-clause-in_class
unfolding hints with_line mark_text
returns-clause-in_class c = refl

pub returns-clause-quoted : goal.returns-clause-quoted
unfolding hints with_line mark_text
returns-clause-quoted c = refl

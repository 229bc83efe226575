use Rattle.std.proofs.Common.{refl}
use Rattle.std.specs.Str.{chars}
use Rattle.iso_explain_block.specs.BlockFaults.{hints}
use Rattle.iso_explain_block.specs.Lines.{with_line}
use Rattle.iso_explain_block.specs.Unknown.{field_lines, nearest_of, visible_names}
use Rattle.strsim.specs.Edits.{cost_at, osa_from, osa_row}
use Rattle.iso_explain_block.proofs.examples.names_that_were_meant_are_told.Goals as goal

pub returns-clause-of_class : goal.returns-clause-of_class
unfolding hints with_line visible_names field_lines nearest_of chars cost_at osa_from osa_row
returns-clause-of_class c = refl

pub returns-clause-of_let : goal.returns-clause-of_let
unfolding hints with_line visible_names field_lines nearest_of chars cost_at osa_from osa_row
returns-clause-of_let c = refl

pub returns-clause-unseen : goal.returns-clause-unseen
unfolding hints with_line visible_names field_lines nearest_of chars cost_at osa_from osa_row
returns-clause-unseen c = refl

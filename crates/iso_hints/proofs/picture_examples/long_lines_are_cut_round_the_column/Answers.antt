use Rattle.std.proofs.Common.{refl}
use Rattle.std.specs.Fmt.{digits}
use Rattle.iso_hints.proofs.picture_examples.long_lines_are_cut_round_the_column.Goals as goal

pub returns-clause-whole : goal.returns-clause-whole
unfolding digits
returns-clause-whole c = refl

pub returns-clause-cut_at_the_end : goal.returns-clause-cut_at_the_end
unfolding digits
returns-clause-cut_at_the_end c = refl

pub returns-clause-cut_at_the_start : goal.returns-clause-cut_at_the_start
unfolding digits
returns-clause-cut_at_the_start c = refl

pub returns-clause-cut_on_both_sides : goal.returns-clause-cut_on_both_sides
unfolding digits
returns-clause-cut_on_both_sides c = refl

pub returns-clause-behind_the_end : goal.returns-clause-behind_the_end
unfolding digits
returns-clause-behind_the_end c = refl

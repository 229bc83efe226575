use Rattle.std.proofs.Common.{refl}
use Rattle.iso_script.proofs.Marks.{is_of_children, is_of_itself}
use Rattle.iso_script.proofs.mark.target.Goals as goal

pub returns-then-takes_word : goal.returns-then-takes_word
returns-then-takes_word c = is_of_children _ _ c.if-takes_word.ensures.found

pub returns-else-takes_word : goal.returns-else-takes_word
returns-else-takes_word c = is_of_itself _ _ c.if-takes_word.ensures.found (c.if-takes_word.ensures.kept refl)

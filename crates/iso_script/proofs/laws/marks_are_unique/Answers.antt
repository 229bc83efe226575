use Rattle.iso_script.proofs.Marks.{one_marks}
use Rattle.iso_script.proofs.laws.marks_are_unique.Goals as goal

pub returns : goal.returns
returns c = one_marks

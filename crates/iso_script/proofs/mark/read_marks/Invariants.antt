use Rattle.std.proofs.Common.{List, length}
use Rattle.iso_script.specs.Marks.{ComeTo, IsMarking, Marking, marks_of}
use Rattle.iso_script.specs.Readings.{AreRead}
use Rattle.iso_script.proofs.mark.read_marks.Given as goal

abbrev pub invariant-marks : goal.invariant-marks
invariant-marks l = (written : List Marking) × AreRead IsMarking written l.fn.parser.lexer l.parser.lexer × ComeTo written (marks_of l.marks)

abbrev pub decreases-marks : goal.decreases-marks
decreases-marks l = length l.parser.lexer

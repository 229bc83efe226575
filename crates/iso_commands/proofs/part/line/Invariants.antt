use Rattle.std.proofs.Common.{drop, map}
use Rattle.iso_summary.specs.Lines.{line}
use Rattle.iso_commands.specs.Parts.{part_text}
use Rattle.iso_tap.proofs.PrinterLemmas.{LeftToPrint}
use Rattle.iso_commands.proofs.part.line.Given as goal

abbrev pub invariant-loop-part : goal.invariant-loop-part
invariant-loop-part g l = LeftToPrint l.fn.printer l.printer (line (map part_text l.parts)) (line (map part_text (drop l.part-index l.parts)))

use Rattle.std.proofs.Common.{drop, map}
use Rattle.iso_github.specs.Parts.{part_text}
use Rattle.iso_junit.specs.Texts.{joined}
use Rattle.iso_tap.proofs.PrinterLemmas.{LeftToPrint}
use Rattle.iso_github.proofs.writing.parts.Given as goal

abbrev pub invariant-loop-part : goal.invariant-loop-part
invariant-loop-part g l = LeftToPrint l.fn.printer l.printer (joined (map part_text l.parts)) (joined (map part_text (drop l.part-index l.parts)))

use Rattle.std.proofs.Common.{drop}
use Rattle.iso_commands.specs.Lent.{lent}
use Rattle.iso_commands.specs.Parts.{each_word}
use Rattle.iso_tap.proofs.PrinterLemmas.{LeftToPrint}
use Rattle.iso_commands.proofs.part.each_word.Given as goal

abbrev pub invariant-loop-given : goal.invariant-loop-given
invariant-loop-given g l = LeftToPrint l.fn.printer l.printer (each_word l.option (lent l.words)) (each_word l.option (lent (drop l.given-index l.words)))

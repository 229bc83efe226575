use Rattle.std.proofs.Common.{drop}
use Rattle.iso_commands.specs.Lent.{lent}
use Rattle.iso_commands.specs.Parts.{each_file}
use Rattle.iso_tap.proofs.PrinterLemmas.{LeftToPrint}
use Rattle.iso_commands.proofs.part.each_file.Given as goal

abbrev pub invariant-loop-name : goal.invariant-loop-name
invariant-loop-name g l = LeftToPrint l.fn.printer l.printer (each_file (lent l.names)) (each_file (lent (drop l.name-index l.names)))

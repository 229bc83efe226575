use Rattle.std.proofs.Common.{drop, length}
use Rattle.std.specs.List.{flat_map}
use Rattle.std.specs.Str.{chars}
use Rattle.iso_junit.specs.Escapes.{escaped}
use Rattle.iso_junit.specs.Files.{file_char, file_name}
use Rattle.iso_tap.proofs.PrinterLemmas.{LeftToPrint}
use Rattle.iso_junit.proofs.file.file.Given as goal

abbrev pub invariant-loop-c : goal.invariant-loop-c
invariant-loop-c g l = LeftToPrint l.fn.printer l.printer (escaped (file_name l.file)) (escaped (flat_map file_char (drop (length l.yielded) (chars l.file))))

use Rattle.std.proofs.Common.{drop, length}
use Rattle.std.specs.List.{flat_map}
use Rattle.std.specs.Str.{chars}
use Rattle.iso_summary.specs.Names.{planned_char, planned_name}
use Rattle.iso_tap.proofs.PrinterLemmas.{LeftToPrint}
use Rattle.iso_summary.proofs.name.planned_name.Given as goal

abbrev pub invariant-loop-c : goal.invariant-loop-c
invariant-loop-c g l = LeftToPrint l.fn.printer l.printer (planned_name l.name) (flat_map planned_char (drop (length l.yielded) (chars l.name)))

use Rattle.std.proofs.Common.{drop, flat_map, map}
use Rattle.iso_affected_text.specs.Rows.{row_of}
use Rattle.iso_affected_text.specs.Texts.{row_text}
use Rattle.iso_tap.proofs.PrinterLemmas.{LeftToPrint}
use Rattle.iso_affected_text.proofs.text.all.Given as goal

abbrev pub invariant-loop-row : goal.invariant-loop-row
invariant-loop-row g l = LeftToPrint l.fn.printer l.printer (flat_map row_text (map row_of l.rows)) (flat_map row_text (map row_of (drop l.row-index l.rows)))

use Rattle.std.proofs.Common.{drop, flat_map, map}
use Rattle.iso_affected_text.specs.Rows.{row_of}
use Rattle.iso_affected_text.specs.Texts.{path_line}
use Rattle.iso_tap.proofs.PrinterLemmas.{LeftToPrint}
use Rattle.iso_affected_text.proofs.changed_paths.paths.Given as goal

abbrev pub invariant-loop-row : goal.invariant-loop-row
invariant-loop-row g l = LeftToPrint l.fn.printer l.printer (flat_map path_line (map row_of l.rows)) (flat_map path_line (map row_of (drop l.row-index l.rows)))

use Rattle.std.proofs.Common.{drop, flat_map}
use Rattle.iso_summary.specs.Entries.{hint_line, hint_lines}
use Rattle.iso_summary.specs.Views.{located_of}
use Rattle.iso_tap.proofs.PrinterLemmas.{LeftToPrint}
use Rattle.iso_summary.proofs.entry.hints.Given as goal

abbrev pub invariant-loop-hint : goal.invariant-loop-hint
invariant-loop-hint g l = LeftToPrint l.fn.printer l.printer (hint_lines (located_of l.at)) (flat_map hint_line (drop l.hint-index l.at.hints.now))

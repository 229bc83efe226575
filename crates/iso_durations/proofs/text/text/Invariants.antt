use Rattle.std.proofs.Common.{drop, flat_map}
use Rattle.iso_durations.specs.Durations.{text_of}
use Rattle.iso_durations.specs.Entries.{entry_line}
use Rattle.iso_plan.specs.RowView.{tree_of}
use Rattle.iso_tap.proofs.PrinterLemmas.{LeftToPrint}
use Rattle.iso_durations.proofs.text.text.Given as goal

abbrev pub invariant-listed : goal.invariant-listed
invariant-listed g l =
    LeftToPrint l.fn.printer l.printer (text_of (tree_of l.plan) l.listed l.fn.all) (flat_map (entry_line (tree_of l.plan)) (drop l.timed-index l.listed))

use Rattle.std.proofs.Common.{drop}
use Rattle.iso_explain_plan.specs.Sizes.{sizes_notes}
use Rattle.iso_tap.proofs.PrinterLemmas.{LeftToPrint}
use Rattle.iso_explain_plan.proofs.size.sizes_notes.Given as goal

abbrev pub invariant-loop-size : goal.invariant-loop-size
invariant-loop-size g l = LeftToPrint l.fn.printer l.printer (sizes_notes l.sizes) (sizes_notes (drop l.size-index l.sizes))

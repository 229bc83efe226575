use Rattle.std.proofs.Common.{drop, false, map}
use Rattle.iso_run.specs.Besides.{parted}
use Rattle.iso_run.specs.Parts.{text_of}
use Rattle.iso_tap.proofs.PrinterLemmas.{LeftToPrint}
use Rattle.iso_run.proofs.parts.print_parts.Given as goal

abbrev pub invariant-parts : goal.invariant-parts
invariant-parts g l =
    LeftToPrint l.fn.printer l.printer (parted false (map text_of l.parts)) (parted l.after (map text_of (drop l.part-index l.parts)))
